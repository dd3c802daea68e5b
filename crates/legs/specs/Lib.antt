-- What `legs` reads.
pub mod Fed
