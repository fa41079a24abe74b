pub mod Latest
pub mod Crossing
