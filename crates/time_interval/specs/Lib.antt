-- The definitions, in the order in which to read them.
pub mod Bounds
pub mod Ordered
pub mod Steps
pub mod Lines
pub mod Seen
pub mod Knows
pub mod Sets
pub mod Next
pub mod Edits
pub mod Places
pub mod Members
pub mod Walks
pub mod Laws
pub mod Examples
pub mod Gaps
pub mod Ahead
