pub mod Words
pub mod Wirings
pub mod Values
pub mod Sums
pub mod Orders
pub mod Minterms
