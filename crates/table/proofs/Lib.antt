pub mod Entries
pub mod Slices
