pub mod Mapped
pub mod BeforeAll
pub mod OfBytes
