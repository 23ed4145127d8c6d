pub mod Edited
pub mod Decided
pub mod LawFacts
pub mod TurnFacts
pub mod Worked
