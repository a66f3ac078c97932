mod OnlyAt
mod Moves
mod Once
mod Found
mod Changes
pub mod Others
