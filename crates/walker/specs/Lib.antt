-- The moves of a walker.
pub mod Walker
pub mod Told
pub mod Promises
