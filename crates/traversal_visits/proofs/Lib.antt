-- Laws of swings and of the counted walk.
pub mod Steps
pub mod Counting
