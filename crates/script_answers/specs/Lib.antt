-- What a command answers, and what its answer 0 says.
pub mod Answers
pub mod Passed
