pub mod Escaped
pub mod Joined
