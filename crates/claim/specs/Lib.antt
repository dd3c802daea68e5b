-- Demand 3, as one statement about whole lists of calls.
pub mod Claim
