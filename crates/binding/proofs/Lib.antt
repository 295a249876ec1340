pub mod Tests
pub mod OwnInputs
