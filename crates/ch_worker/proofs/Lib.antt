pub mod Counts
pub mod Crossing
pub mod Takings
pub mod Turning
pub mod TurnLaws
pub mod RunLaws
