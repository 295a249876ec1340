pub mod Shapes
pub mod Copying
pub mod Soundness
pub mod Count
