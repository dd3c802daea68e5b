pub mod Notation
pub mod Codes
