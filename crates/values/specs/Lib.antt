-- A line of values, read as its bytes come.
pub mod Eights
pub mod Reading
