pub mod Describe
pub mod Room
