-- The definitions, in the order in which to read them.
pub mod Kinds
pub mod OperandList
pub mod Fits
pub mod Conflict
pub mod Operands
pub mod World
pub mod Sound
pub mod Serial
pub mod Examples
