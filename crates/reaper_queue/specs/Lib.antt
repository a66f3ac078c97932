pub mod Reaper
pub mod Standing
