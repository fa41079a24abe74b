pub mod Events
pub mod Batches
pub mod Batching
pub mod Examples
