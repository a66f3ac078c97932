pub mod Quanta
pub mod Appending
pub mod Steps
pub mod Places
pub mod SomeText
pub mod Refusing
pub mod Whole
pub mod Settled
pub mod Together
mod Stopping
mod StepWords
mod EventsFit
mod ShortLists
pub mod WorldsFit
mod FalseFitting
