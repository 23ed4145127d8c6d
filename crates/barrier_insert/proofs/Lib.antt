pub mod Searched
pub mod Fits
pub mod Made
pub mod InOrder
pub mod Sorted
pub mod AtTurn
pub mod LawFacts
