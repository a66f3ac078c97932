pub mod Working
pub mod InPlace
pub mod Recording
pub mod GivingLemmas
pub mod Stashes
pub mod Beginning
pub mod JobLemmas
pub mod Committing
pub mod Keeping
pub mod Claiming
pub mod SettingsLemmas
mod YardBirths
mod YardLemmas
pub mod ShownLemmas
