-- The definitions, in the order in which to read them.
pub mod Meaning
pub mod Evaluates
pub mod Laws
