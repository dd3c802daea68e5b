-- What compile answers, and what a program's slice holds then.
pub mod Outcome
pub mod Entry
pub mod Preparation
