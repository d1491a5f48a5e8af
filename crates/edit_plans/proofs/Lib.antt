-- Laws of values stored one after another.
pub mod Stored
