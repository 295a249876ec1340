pub mod Shapes
pub mod Binds
pub mod Pricing
pub mod Finishing
