-- Laws of the loop over the commands and of a run.
pub mod Loop
pub mod Arms
