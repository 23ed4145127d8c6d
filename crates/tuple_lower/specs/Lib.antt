-- The definitions, in the order in which to read them.
pub mod Lowered
pub mod Blocks
pub mod Drafted
pub mod Means
pub mod Sound
