pub mod RoundTrip
pub mod Content
pub mod Packing
