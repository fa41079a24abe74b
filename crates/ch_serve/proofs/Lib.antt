pub mod Arriving
pub mod Turning
pub mod Gathering
pub mod Places
pub mod NewThreads
pub mod GivingBack
pub mod Finishing
pub mod Numbering
