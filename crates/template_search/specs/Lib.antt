pub mod Sides
pub mod Places
pub mod Openings
pub mod Reaching
pub mod Circle
