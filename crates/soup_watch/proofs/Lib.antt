mod Orders
mod Labels
mod WorkedRow
pub mod SomeText
mod Seen
mod Seating
