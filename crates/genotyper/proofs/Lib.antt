pub mod Births
mod Digits
mod Ranks
mod ReadBack
mod Sizes
mod Spelling
mod Words
mod Writes
