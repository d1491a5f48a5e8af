-- What is said of a walk's visits.
pub mod Visits
