pub mod Lists
pub mod Recorded
pub mod Leaves
pub mod Texts
pub mod Whole
