pub mod Field
pub mod Kinds
pub mod Paper
