-- Laws of derive.
pub mod Writable
pub mod Parts
pub mod Writing
pub mod Ends
pub mod Left
pub mod Rates
pub mod Numbers
