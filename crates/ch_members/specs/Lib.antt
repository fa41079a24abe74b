pub mod Readings
pub mod ArrayStrings
