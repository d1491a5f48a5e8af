-- The ring of a corner, by opposites alone.
pub mod Ring
