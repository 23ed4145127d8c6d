-- The definitions, in the order in which to read them.
pub mod Operators
pub mod Text
pub mod Grammar
pub mod Limits
pub mod Plain
pub mod Same
pub mod Laws
