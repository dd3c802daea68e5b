-- What lowering answers and writes, in the words of the definitions.
pub mod Bytes
pub mod Low
pub mod Operators
pub mod Piece
pub mod Ready
pub mod Leaf
