-- Laws of demand 3 for a host.
pub mod Loops
pub mod Owing
