-- Laws of the checks.
pub mod Chain
pub mod Cases
