-- What the records of the stored list leave that change the table themselves.
pub mod Change
