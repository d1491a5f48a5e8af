-- Laws of the loops over fans, and that the chains do what the build says.
pub mod Runs
pub mod Passes
pub mod Agree
pub mod Marks
