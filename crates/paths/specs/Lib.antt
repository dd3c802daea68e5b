-- Paths as records.
pub mod Table
