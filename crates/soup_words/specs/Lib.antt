pub mod Split
pub mod Table
pub mod Orders
pub mod Laws
