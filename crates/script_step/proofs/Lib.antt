-- The arms of a command, and what it keeps.
pub mod Kept
pub mod Arms
