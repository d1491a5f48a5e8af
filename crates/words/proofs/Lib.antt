-- The laws behind the loops of this crate.
pub mod Loops
