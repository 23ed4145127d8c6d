-- The definitions, in the order in which to read them.
pub mod Producers
pub mod Links
pub mod Found
pub mod Walk
pub mod Laws
pub mod Examples
