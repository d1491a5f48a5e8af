-- What the quick pass says of a corner.
pub mod Fits
