-- Laws of the ring.
pub mod Steps
pub mod Labels
pub mod Exact
