pub mod Places
pub mod OrderSteps
pub mod QueueSteps
pub mod InPlace
pub mod Crossing
