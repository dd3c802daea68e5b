-- Laws of the bytes of a program.
pub mod Bytes
pub mod Lengths
pub mod Slots
pub mod Records
pub mod Literals
pub mod ReadBack
pub mod Frames
