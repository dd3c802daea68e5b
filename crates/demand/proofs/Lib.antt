-- Laws of demand 3 for compile or derive and a list of calls.
pub mod Loops
pub mod Lasts
pub mod Sources
pub mod Owing
pub mod Numbers
