-- The terms in which the search speaks of the build.
pub mod Search
