-- The build of a table from points and faces.
pub mod Build
pub mod Ready
