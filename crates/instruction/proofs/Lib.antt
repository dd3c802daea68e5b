pub mod Leaves
pub mod Extremes
pub mod Plain
pub mod Opcodes
pub mod Done
pub mod Stores
pub mod Once
