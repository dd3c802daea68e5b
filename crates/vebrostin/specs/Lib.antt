-- Numbers and slices as they cross to C and Rust.
pub mod Cells
pub mod Calls
