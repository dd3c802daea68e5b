-- Input lines in, output lines out.
pub mod Text
pub mod Sums
pub mod Record
pub mod Owed
pub mod Calls
