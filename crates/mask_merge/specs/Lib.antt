-- The definitions, in the order in which to read them.
pub mod Reduced
pub mod Laws
pub mod Search
pub mod Examples
