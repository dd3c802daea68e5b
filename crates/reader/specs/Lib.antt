pub mod Read
pub mod Writable
pub mod Transfers
