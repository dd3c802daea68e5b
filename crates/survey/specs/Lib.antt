pub mod Derived
pub mod Table
pub mod Worked
