pub mod Binding
pub mod Right
