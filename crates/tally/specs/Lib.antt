-- What a node adds to the counts of its children.
pub mod Weight
