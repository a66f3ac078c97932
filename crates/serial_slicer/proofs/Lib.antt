pub mod Soles
pub mod Quanta
pub mod Turns
pub mod Again
pub mod Steps
pub mod Serials
