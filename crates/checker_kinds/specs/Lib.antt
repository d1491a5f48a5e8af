-- The order of the tests.
pub mod Kinds
pub mod Order
