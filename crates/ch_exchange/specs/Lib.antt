pub mod Pending
pub mod Answers
pub mod Turns
pub mod Causes
pub mod Stories
pub mod Laws
pub mod Writing
pub mod Hearing
