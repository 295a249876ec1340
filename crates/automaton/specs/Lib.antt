pub mod Place
pub mod Machine
