pub mod Tellings
pub mod LaterAsks
pub mod AskSteps
pub mod Heeded
pub mod LossSteps
pub mod OneFrame
