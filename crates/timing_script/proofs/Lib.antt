pub mod Readings
pub mod Reaching
mod FieldTexts
mod RowTexts
pub mod Spelled
pub mod Elements
pub mod Gifts
pub mod Laid
pub mod Outcome
pub mod DataReadings
pub mod OfNames
