-- Run and resume of a program's bytes, beside the machine's.
pub mod Views
pub mod Calls
