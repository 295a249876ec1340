pub mod Choices
pub mod Lists
pub mod Fields
pub mod Copies
pub mod Named
