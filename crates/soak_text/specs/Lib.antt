-- The definitions, in the order in which to read them.
pub mod Draws
pub mod Generator
pub mod GeneratorLaws
pub mod Lines
pub mod Soak
pub mod Laws
pub mod Agree
pub mod SoakCourse
pub mod Parts
