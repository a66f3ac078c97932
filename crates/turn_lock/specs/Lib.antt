pub mod Summary
pub mod Seat
pub mod View
pub mod Rule
pub mod Steps
pub mod Mirrors
