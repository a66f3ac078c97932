pub mod Disassembly
pub mod HexText
pub mod Laws
