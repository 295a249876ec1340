pub mod Pairs
pub mod Fitted
