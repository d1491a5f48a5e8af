-- The commands of a script, and a run.
pub mod Commands
pub mod Run
pub mod Told
