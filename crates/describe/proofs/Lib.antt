pub mod Described
pub mod Meaning
pub mod ReadBack
