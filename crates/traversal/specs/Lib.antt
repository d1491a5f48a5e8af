-- What a ring call answers.
pub mod Ring
pub mod Promises
