pub mod Answers
mod Numbers
pub mod Arguments
pub mod Questions
