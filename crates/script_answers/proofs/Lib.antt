-- Laws of a command's answers.
pub mod Told
pub mod Passed
