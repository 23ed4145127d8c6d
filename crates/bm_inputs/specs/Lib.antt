-- The definitions, in the order in which to read them.
pub mod SourceLines
pub mod MachineLines
pub mod Sources
pub mod Machines
pub mod Standing
pub mod ImageLines
pub mod Images
pub mod Counts
pub mod ScriptLines
pub mod DataLines
pub mod Scripts
pub mod Memories
pub mod Beginning
pub mod BeginningLaws
