-- Demand 3 for a host that has only the library's functions.
pub mod Hosted
pub mod Owed
