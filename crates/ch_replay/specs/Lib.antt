pub mod Playable
pub mod Reading
pub mod Serving
pub mod Words
