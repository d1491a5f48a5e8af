-- Laws of the words for tests, of the test behind answer 1, of live slots, of the blank table and of new slots.
pub mod Words
pub mod Shape
pub mod Lives
pub mod Blanking
pub mod Stored
