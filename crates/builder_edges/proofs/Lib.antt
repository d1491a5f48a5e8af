-- Laws of the pass over the kept faces.
pub mod Searching
