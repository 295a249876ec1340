pub mod Glue
pub mod Codes
pub mod Asked
