-- What IEEE 754 and document 01 fix of each value, for either binary format. `Width`: the widths beyond these two, and rounding to one.
pub mod Value
pub mod Width
pub mod Round
pub mod Root
pub mod Modulo
pub mod Extremum
pub mod Constant
