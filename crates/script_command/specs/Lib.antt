-- One command of a script: what it is, and what is asked of it without the table.
pub mod Decode
pub mod Checks
