-- The whole output of the program `legs`.
pub mod Totals
pub mod Legs
