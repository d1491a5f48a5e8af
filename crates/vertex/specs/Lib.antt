-- Points of three floats.
pub mod Point
