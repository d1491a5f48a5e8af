-- A face split, slot by slot, as edit.rs has it.
pub mod SplitFace
