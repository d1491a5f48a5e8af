-- What the edits begin with.
pub mod Plans
