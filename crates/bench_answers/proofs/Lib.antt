pub mod Entries
pub mod Within
