pub mod Searching
pub mod Tabled
