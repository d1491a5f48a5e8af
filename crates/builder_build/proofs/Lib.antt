-- A finished build is well-formed.
pub mod Find
pub mod Grow
pub mod Meet
pub mod Ready
pub mod Folded
pub mod Settle
pub mod Finished
pub mod Promise
pub mod Examples
