pub mod Limits
pub mod Sequence
