mod Gates
mod Making
mod Pieces
mod Shapes
pub mod Times
