pub mod Turns
pub mod ReadyLaws
pub mod Written
pub mod Onward
