pub mod Outbox
pub mod Room
pub mod Handed
