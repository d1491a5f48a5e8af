-- A worked example of a face split.
pub mod Examples
