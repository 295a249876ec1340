pub mod Steps
pub mod Turns
pub mod Faultless
pub mod Stages
