pub mod Function
pub mod Range
pub mod Evaluate
