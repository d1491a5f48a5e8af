-- The answers that C gets, against the definitions of the crates below.
pub mod Told
