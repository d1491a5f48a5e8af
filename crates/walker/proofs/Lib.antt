-- Laws of the moves on a well-formed table.
pub mod Sound
