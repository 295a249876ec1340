pub mod Release
pub mod Kept
