pub mod Pairs
pub mod Blocks
pub mod Lines
pub mod Once
pub mod Telling
