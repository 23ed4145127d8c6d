pub mod Plain
pub mod Chain
pub mod Counts
pub mod Nodes
pub mod Once
pub mod Answers
pub mod Right
