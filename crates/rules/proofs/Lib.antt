pub mod Right
pub mod Ends
pub mod Codes
