-- The definitions, in the order in which to read them.
pub mod Order
pub mod Inserted
pub mod Laws
