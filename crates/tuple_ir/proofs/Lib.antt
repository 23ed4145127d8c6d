pub mod WorldFacts
pub mod Serial
pub mod Growth
pub mod Trails
pub mod Sounds
