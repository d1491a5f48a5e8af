-- A collapse, slot by slot, as edit.rs has it.
pub mod Collapse
