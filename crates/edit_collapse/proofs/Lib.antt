-- Option's `or`, marks one after another, and a worked example of a collapse.
pub mod Either
pub mod Marks
pub mod Examples
