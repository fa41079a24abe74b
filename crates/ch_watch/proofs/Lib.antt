pub mod OfUser
pub mod Crossing
