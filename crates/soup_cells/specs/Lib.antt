pub mod Soup
pub mod Pages
pub mod Paging
