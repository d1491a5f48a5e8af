-- What a record of the stored list asks of the library where it changes nothing.
pub mod Judge
pub mod Look
