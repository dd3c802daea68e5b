-- What rounding means, and what document 01 says of each value, for every width: `fraction` digits after the leading one, values below 2 ^ (power + 1).
-- Read `Rounding` first (to the nearest, ties to even), then the pages `Widths` (all that holds for every width) and `Formats` (the same of f64 and f32, with
-- Add, Subtract, Multiply and Divide). `Exact`: exact results with a sign. `Whole`: Floor and Ceil. `NearestRoot`: Sqrt. `Modulo`. `Extremum`: Min and Max.
-- `Square`: the whole part of a root.
pub mod Square
pub mod Rounding
pub mod Exact
pub mod Whole
pub mod NearestRoot
pub mod Modulo
pub mod Extremum
pub mod Widths
pub mod Formats
