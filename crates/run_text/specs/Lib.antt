-- The definitions, in the order in which to read them.
pub mod RunUpTo
pub mod RunLaws
pub mod RunText
pub mod Serial
pub mod Laws
pub mod TraceText
pub mod EventLines
pub mod TraceLaws
pub mod EvalText
pub mod Told
pub mod Runs
pub mod Begins
pub mod TraceBegins
