-- The stored list: its records in turn, and what each asks for.
pub mod Op
pub mod Records
