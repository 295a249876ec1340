pub mod Shown
pub mod Implication
