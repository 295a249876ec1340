pub mod Shown
pub mod States
pub mod Sets
