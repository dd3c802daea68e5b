pub mod Tests
pub mod Body
pub mod Ops
pub mod Records
pub mod Pass
pub mod Listed
