pub mod Judging
pub mod Kept
pub mod Losses
pub mod ReadTexts
pub mod Signed
pub mod StartFaults
pub mod Told
pub mod Waits
