-- Laws of the checker's loops and of its verdict.
pub mod First
pub mod Order
pub mod Keeping
pub mod Judge
pub mod Meshes
