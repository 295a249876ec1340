pub mod Lines
pub mod Everywhere
pub mod Room
