-- The first index that fails a test, the tests one after the other, and what a verdict means.
pub mod Verdict
pub mod First
pub mod Order
pub mod Blame
pub mod Told
