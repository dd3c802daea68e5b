pub mod Written
pub mod Asking
pub mod Crossing
pub mod Outcomes
pub mod Straight
