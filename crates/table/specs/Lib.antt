-- A table, its rules, what is counted in it, and document 01's small meshes.
pub mod Table
pub mod Words
pub mod Parts
pub mod Slots
pub mod Rules
pub mod Euler
pub mod Meshes
