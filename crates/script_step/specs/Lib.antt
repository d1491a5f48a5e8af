-- What one command does, leaves and answers.
pub mod Step
pub mod Stepped
