-- The walk about a vertex.
pub mod Walk
