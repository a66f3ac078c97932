mod Attaching
pub mod Moments
pub mod OneHold
mod Passing
mod Reading
mod Resting
mod Runs
pub mod Saying
mod Spelled
