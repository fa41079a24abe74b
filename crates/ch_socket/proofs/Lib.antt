pub mod AskTurns
pub mod HearSteps
pub mod LossSteps
pub mod Outputs
pub mod NoLosses
