pub mod Bounds
pub mod Counts
