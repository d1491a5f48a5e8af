-- The five lists of a walk, and what a ring call leaves of it.
pub mod Reached
pub mod Lists
pub mod Outcome
