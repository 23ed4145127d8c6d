-- The definitions, in the order in which to read them.
pub mod Conflicts
pub mod Happened
pub mod Ticks
pub mod Bounded
pub mod Worked
