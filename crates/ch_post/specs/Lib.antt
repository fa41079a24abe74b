pub mod StatusLines
pub mod Requests
pub mod Talks
pub mod Posts
