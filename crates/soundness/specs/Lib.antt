pub mod Sound
pub mod Shape
