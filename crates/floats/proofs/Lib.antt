mod Zero
mod Zeros
mod Library
mod Raised
mod Bits
mod RootSteps
mod Remainders
pub mod Values
pub mod Truncate
