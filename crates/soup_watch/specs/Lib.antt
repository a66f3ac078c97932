pub mod Seeing
pub mod Seats
pub mod Text
pub mod Watching
