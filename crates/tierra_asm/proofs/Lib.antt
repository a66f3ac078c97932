mod Parts
pub mod Fronts
mod Cuts
pub mod Reading
