-- What a record of the stored list leaves, also of parts at their largest.
pub mod Record
pub mod Replay
