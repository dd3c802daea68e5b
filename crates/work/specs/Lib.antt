-- How the code of one node's work stands to the definition of it in `meaning`.
pub mod View
pub mod Opcode
