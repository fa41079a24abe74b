pub mod Held
pub mod Noting
pub mod Crossing
