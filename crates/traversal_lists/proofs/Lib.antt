-- Laws of the loops that write along a walk, and of its outcome.
pub mod Reached
pub mod Loops
pub mod Answers
