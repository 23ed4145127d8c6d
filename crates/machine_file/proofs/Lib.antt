pub mod KeyFacts
pub mod Shapes
pub mod Times
pub mod Answered
pub mod Meant
