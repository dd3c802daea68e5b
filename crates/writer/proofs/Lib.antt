pub mod Over
pub mod Apart
pub mod Stored
pub mod Decimal
