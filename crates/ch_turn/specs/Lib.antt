pub mod Callers
pub mod Tickets
pub mod Views
pub mod LockRule
pub mod StepEffects
pub mod SeatStates
pub mod PassModels
pub mod Counts
