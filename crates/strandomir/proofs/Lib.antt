-- The law that the moves cite.
pub mod Moves
