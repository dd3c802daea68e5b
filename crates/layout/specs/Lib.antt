-- The bytes of a program: docs/PROGRAM.md.
pub mod Opcode
pub mod Image
pub mod Decode
