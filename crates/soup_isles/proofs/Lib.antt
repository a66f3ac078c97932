mod Settlers
mod Joining
mod Worlds
mod Lines
