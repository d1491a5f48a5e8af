-- The patch file.
pub mod File
