-- The definitions, in the order in which to read them.
pub mod Symbols
pub mod Spell
pub mod Scanning
pub mod Laws
