-- What the program counts.
pub mod Places
