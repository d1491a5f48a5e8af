-- Laws of floats.
pub mod Finite
pub mod Patterns
