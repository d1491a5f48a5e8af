-- The lent table in the contracts of the calls.
pub mod Lent
