pub mod Trees
pub mod Rows
pub mod Worked
pub mod Capped
pub mod Steps
pub mod Chosen
pub mod Filling
pub mod Derivative
