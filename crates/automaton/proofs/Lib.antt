pub mod Codes
pub mod Sides
pub mod Runs
