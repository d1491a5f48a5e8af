-- A ring that is written in one walk.
pub mod Tried
