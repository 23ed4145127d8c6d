-- The definitions, in the order in which to read them.
pub mod Line
pub mod Check
pub mod Keeps
pub mod Firsts
pub mod Image
pub mod Order
pub mod Refused
pub mod Laws
pub mod Rest
pub mod Flat
pub mod Held
pub mod Again
pub mod Columns
pub mod Sorted
