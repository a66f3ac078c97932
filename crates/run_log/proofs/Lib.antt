pub mod Numbers
pub mod Entries
pub mod Later
pub mod Survivors
pub mod Runs
pub mod Notes
pub mod Texts
