-- What is counted on a table and over a script.
pub mod Tally
pub mod Commands
