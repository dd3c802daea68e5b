-- Laws of a line of values.
pub mod Eights
pub mod Pieces
pub mod Readings
pub mod Parts
