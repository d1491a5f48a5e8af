-- A flip, slot by slot, as edit.rs has it.
pub mod Flip
