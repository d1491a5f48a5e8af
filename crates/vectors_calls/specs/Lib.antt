-- What the build and the run leave that a record of the stored list calls.
pub mod Calls
