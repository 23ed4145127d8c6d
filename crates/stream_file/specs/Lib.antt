-- The definitions, in the order in which to read them.
pub mod Words
pub mod Cuts
pub mod Rows
pub mod Fields
pub mod First
pub mod Draft
pub mod Drafted
pub mod Images
pub mod Built
pub mod Laws
pub mod RowFits
pub mod Shown
pub mod Texts
pub mod Written
pub mod Typed
