pub mod Text
pub mod Holding
pub mod Stops
pub mod Ending
pub mod Steps
pub mod Fitting
