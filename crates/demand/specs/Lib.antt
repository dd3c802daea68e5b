-- Demand 3 for compile or derive followed by a list of calls.
pub mod Listed
pub mod Last
pub mod Made
pub mod Owed
