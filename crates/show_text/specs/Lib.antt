-- The definitions, in the order in which to read them.
pub mod Shown
pub mod Listing
pub mod Laws
