pub mod Effects
pub mod UserShardState
pub mod Stands
pub mod OpenSigns
pub mod Seats
pub mod SeatLaws
