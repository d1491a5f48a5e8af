-- Laws of the quick pass.
pub mod Quick
