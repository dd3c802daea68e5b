-- Laws of listing in blocks.
pub mod Listed
