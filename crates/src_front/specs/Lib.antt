-- The definitions, in the order in which to read them.
pub mod Reads
pub mod Lifted
pub mod Laws
