-- The law behind the kinds of a move.
pub mod Moves
