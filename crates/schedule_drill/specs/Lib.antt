pub mod Moves
pub mod Drill
pub mod AtBook
pub mod Text
