-- R1 to R6 as tests of one slot, and R5's walks.
pub mod Near
pub mod Tests
