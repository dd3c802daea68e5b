-- What derive answers and leaves.
pub mod Outcome
