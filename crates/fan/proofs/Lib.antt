-- The mathematics of fans, from the ground up.
pub mod Fan
pub mod Pigeon
pub mod Walk
pub mod Ring
pub mod Visits
pub mod Tables
pub mod Redirect
pub mod Relabel
pub mod Spread
