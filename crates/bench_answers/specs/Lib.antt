pub mod Answers
pub mod Asked
