-- The stored list as words, and what the replay compares and counts.
pub mod Words
pub mod Same
pub mod Tally
