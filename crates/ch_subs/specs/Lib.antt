pub mod Subs
pub mod Names
