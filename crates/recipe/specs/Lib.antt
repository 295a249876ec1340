pub mod Fields
pub mod Asked
