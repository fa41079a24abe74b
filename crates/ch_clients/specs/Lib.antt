pub mod InTurn
pub mod Answers
pub mod Clients
pub mod Spoken
pub mod Leaving
pub mod Serving
pub mod Passes
pub mod Steps
