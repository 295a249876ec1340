pub mod Best
pub mod Beside
