-- Laws of lines.
pub mod Texts
pub mod Runs
pub mod Newlines
pub mod Totals
pub mod Listings
pub mod Keeping
pub mod Places
pub mod Begins
pub mod NameLines
pub mod Stages
pub mod Calls
pub mod Compose
pub mod Cut
pub mod Feeding
