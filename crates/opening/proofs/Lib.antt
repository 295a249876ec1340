pub mod Copying
pub mod Opened
