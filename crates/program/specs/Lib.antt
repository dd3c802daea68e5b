-- The check of a program's bytes.
pub mod Check
