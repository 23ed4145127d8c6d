-- The definitions, in the order in which to read them.
pub mod Tokens
pub mod Machine
pub mod Fault
pub mod Tally
pub mod Turn
pub mod Statements
pub mod Laws
pub mod Wanted
