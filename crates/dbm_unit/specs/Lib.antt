-- The definitions, in the order in which to read them.
pub mod Table
pub mod Kept
pub mod Ready
pub mod Lists
