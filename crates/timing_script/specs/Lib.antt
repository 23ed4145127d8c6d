-- The definitions, in the order in which to read them.
pub mod Script
pub mod Within
pub mod Text
pub mod Reading
pub mod Laws
pub mod Rows
pub mod Spelling
pub mod Data
pub mod DataLaws
pub mod DataReading
pub mod Shown
