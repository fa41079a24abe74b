pub mod Taking
pub mod Takes
pub mod Workers
pub mod Turns
pub mod Runs
pub mod Laws
