pub mod Ranges
pub mod OneOrder
