-- Numbers of corners and faces, and the turns within a face.
pub mod Corner
pub mod Told
