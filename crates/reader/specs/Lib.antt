pub mod Starts
pub mod Words
pub mod Job
pub mod Mapping
