-- Laws and worked examples of an edge split.
pub mod Without
pub mod Examples
