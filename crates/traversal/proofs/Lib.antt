-- Laws of ring calls on a well-formed table, and on the small meshes.
pub mod Meshes
pub mod Sound
