-- Laws that crates above may cite.
pub mod Turns
