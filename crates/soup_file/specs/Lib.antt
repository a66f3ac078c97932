pub mod Keys
pub mod Settings
pub mod Creatures
pub mod SoupFile
pub mod Laws
