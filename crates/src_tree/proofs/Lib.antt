pub mod Equations
pub mod Way
pub mod Again
pub mod Whole
pub mod Derived
