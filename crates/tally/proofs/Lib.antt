pub mod Weights
pub mod Flat
