pub mod Joining
pub mod Gates
