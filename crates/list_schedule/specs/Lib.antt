-- The definitions, in the order in which to read them.
pub mod Job
pub mod Greedy
pub mod Schedule
pub mod Steps
pub mod Laws
pub mod Examples
