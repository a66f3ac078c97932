pub mod Isles
pub mod Runs
pub mod Text
