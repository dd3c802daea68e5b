-- What the bits of an f64 stand for, as the code of Sqrt reads them.
pub mod Fields
pub mod Extremum
