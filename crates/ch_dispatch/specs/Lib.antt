pub mod Outcomes
pub mod MadeAsks
pub mod Messages
pub mod Hearing
pub mod Asking
pub mod Losses
pub mod Laws
