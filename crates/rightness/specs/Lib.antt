pub mod Rightness
pub mod FirstWrong
