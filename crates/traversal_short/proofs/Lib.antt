-- Laws of a ring that is written in one walk.
pub mod Short
