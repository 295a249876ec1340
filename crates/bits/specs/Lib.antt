pub mod Bits
pub mod Wiring
pub mod Sum
pub mod Vector
pub mod Order
pub mod Adder
pub mod Asked
