pub mod Verdicts
pub mod Checked
pub mod Ids
pub mod Laws
pub mod PrintedFrames
