pub mod Read
pub mod Room
pub mod Kept
