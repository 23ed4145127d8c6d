pub mod Statuses
pub mod Refusing
pub mod Courses
pub mod ImageStatuses
pub mod Firsts
pub mod Causes
pub mod Verdicts
mod FewBlocks
mod Machines
pub mod Lawful
pub mod ImageCourses
pub mod BeginningStatuses
pub mod Scripts
pub mod Memories
pub mod Beginnings
