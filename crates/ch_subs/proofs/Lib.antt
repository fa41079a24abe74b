pub mod LeastName
pub mod Crossing
