pub mod StateBytes
pub mod Savings
pub mod Reading
pub mod Parts
pub mod Restoring
pub mod Checks
pub mod Soundness
