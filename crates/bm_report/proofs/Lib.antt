pub mod Elements
pub mod Names
pub mod Memories
pub mod Shortness
pub mod OneLine
