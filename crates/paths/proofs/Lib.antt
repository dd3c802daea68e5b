pub mod Steps
pub mod Climb
