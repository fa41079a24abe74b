pub mod Benches
pub mod JsonString
pub mod Seats
pub mod Playing
pub mod Rounding
pub mod Taking
pub mod Steps
pub mod Hooks
