-- What a node does with numbers, and the tree reading.
pub mod Work
pub mod Reading
