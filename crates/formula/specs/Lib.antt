-- The formula, the name line, lines of values and paths of document 01: bytes, and what they stand for.
pub mod Text
pub mod Operator
pub mod Formula
pub mod Optional
pub mod Node
pub mod Transfer
pub mod Names
pub mod Values
pub mod Path
pub mod Term
