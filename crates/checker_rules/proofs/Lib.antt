-- Laws of the tests: read as the rules; R5's walks, and their turns.
pub mod Turns
pub mod Walks
pub mod Rules
