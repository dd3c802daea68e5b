-- `Corners`: values at the places that document 01 names. `Integers`: the product of whole numbers. `Wholes`: values that are whole numbers.
pub mod Integers
pub mod Wholes
pub mod Corners
