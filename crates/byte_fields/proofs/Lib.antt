pub mod ListLoop
pub mod Exact
pub mod Fields
