-- The definitions, in the order in which to read them.
pub mod Faithful
pub mod Planned
pub mod PlanLaws
pub mod Compiled
pub mod Reasons
pub mod Summarised
pub mod Laws
pub mod Ranges
pub mod Fronts
pub mod Counts
