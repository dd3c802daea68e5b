pub mod Looping
pub mod Late
pub mod Single
pub mod Whole
pub mod Plain
pub mod Progress
