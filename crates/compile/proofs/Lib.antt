-- Laws of compile.
pub mod Headers
pub mod Faults
pub mod Whole
pub mod Entries
pub mod Own
pub mod Back
pub mod Cut
pub mod Numbers
