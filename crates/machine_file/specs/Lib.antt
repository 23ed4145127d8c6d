-- The definitions, in the order in which to read them.
pub mod Keys
pub mod MachineFile
