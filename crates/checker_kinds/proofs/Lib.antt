-- Laws of the order of the tests.
pub mod Places
