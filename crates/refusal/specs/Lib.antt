-- The numbers that calls answer by.
pub mod Refusal
