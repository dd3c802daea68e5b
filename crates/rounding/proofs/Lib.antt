-- `Nearest`: `round_at` is to the nearest, ties to even. `Rounded`: there is one result only, a number rounds to itself, where infinities begin, and the toolchain's
-- `round` is `round_at`. `Value`: the sizes of a width are the values of its format. `Once`: each operation rounds once. `Small`: whole numbers that a width has. `Whole`, `NearestRoot`, `Remainder`: Floor
-- and Ceil, Sqrt, Modulo. `Extremum`: Min and Max, by a value's `Rank`. `RootDigits`: a root read off the digits of a whole root. `Widths` and `Formats`: all of it, on a page each; `Sound`: the widths of f64 and f32. `Corners`: what rounding is not.
-- The others are laws that these rest on: `Square`, `Digits` and `Neighbours` of whole numbers, `Sign` and `Order` of values.
pub mod Square
pub mod Digits
pub mod Neighbours
pub mod Nearest
pub mod LastDigit
pub mod Rounded
pub mod Value
pub mod Sign
pub mod Order
pub mod Once
pub mod Small
pub mod Whole
pub mod NearestRoot
pub mod RootDigits
pub mod Remainder
pub mod Rank
pub mod Extremum
pub mod Widths
pub mod Sound
pub mod Formats
pub mod Corners
