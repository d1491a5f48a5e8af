-- The terms in which the code for the duplicates speaks of the build.
pub mod Chains
