pub mod Pair
pub mod Pairing
pub mod Fitting
