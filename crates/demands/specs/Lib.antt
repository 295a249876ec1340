pub mod Starred
pub mod Answers
pub mod Mapped
pub mod Choice
pub mod Benches
pub mod Negated
