-- The definitions, in the order in which to read them.
pub mod RProgram
pub mod Declarations
pub mod Named
pub mod Right
pub mod Ranges
pub mod Fault
pub mod Adding
pub mod Stops
pub mod Sizes
pub mod Laws
