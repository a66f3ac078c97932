pub mod Birth
pub mod Executing
pub mod Draws
pub mod Registers
pub mod Searching
