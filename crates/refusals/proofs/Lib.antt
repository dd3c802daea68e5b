-- Laws of refusals.
pub mod Back
