pub mod Frames
pub mod Hold
pub mod Shelf
