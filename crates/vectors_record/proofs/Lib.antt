-- The laws behind the lending of the first entries, and behind the ops that words stand for.
pub mod Ops
pub mod Seams
