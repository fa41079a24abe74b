pub mod Steps
pub mod Gathers
pub mod Deeds
pub mod Laws
pub mod Examples
