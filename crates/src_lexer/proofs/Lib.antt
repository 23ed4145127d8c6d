pub mod SymbolFacts
pub mod First
pub mod Numbers
pub mod Unique
pub mod Words
pub mod Order
pub mod Some
