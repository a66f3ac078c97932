mod Members
mod Checks
mod Tables
mod Apart
mod InOrder
mod WholeFile
pub mod OneSetup
mod Grown
