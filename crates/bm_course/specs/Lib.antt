-- The definitions, in the order in which to read them.
pub mod Status
pub mod Course
pub mod Lines
pub mod Refusals
pub mod Limited
pub mod Seen
pub mod Ends
pub mod Goes
pub mod Clauses
pub mod Laws
pub mod Answers
pub mod Sends
