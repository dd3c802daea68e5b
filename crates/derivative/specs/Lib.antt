-- The derivative tree by the rules of `derivative.rs`, the record of each of its nodes, and derive. `Provenance`: what each record says. `Polynomial`: plain formulas over whole numbers, and what an exact rate is.
pub mod Rules
pub mod Differentiate
pub mod Records
pub mod Provenance
pub mod Derive
pub mod Attributes
pub mod Polynomial
