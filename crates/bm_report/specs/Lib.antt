-- The definitions, in the order in which to read them.
pub mod Text
pub mod Held
pub mod Listing
pub mod Summary
pub mod Events
