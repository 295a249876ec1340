pub mod Spelling
pub mod Room
