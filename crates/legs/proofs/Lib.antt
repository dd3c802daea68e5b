-- Laws of feeding blocks.
pub mod Feeding
