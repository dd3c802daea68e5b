-- The numbers by which bad input is refused.
pub mod Numbers
pub mod Refusals
