-- Laws of the numbers of refusals.
pub mod Numbers
