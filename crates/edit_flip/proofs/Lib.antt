-- A worked example of a flip.
pub mod Examples
