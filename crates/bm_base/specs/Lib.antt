-- The definitions, in the order in which to read them.
pub mod Word
pub mod Numeral
pub mod Strict
pub mod Hex
pub mod Lines
pub mod Mask
pub mod Mixing
pub mod Spec
pub mod Machine
pub mod Entry
pub mod NamedEntry
pub mod Names
pub mod Memory
pub mod Held
pub mod Memories
pub mod Prefix
pub mod Passed
