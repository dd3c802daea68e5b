-- What the whole of a listing is.
pub mod Listed
