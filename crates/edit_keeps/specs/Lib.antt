-- What an edit keeps, and what it touches.
pub mod Keeps
