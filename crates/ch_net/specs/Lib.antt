pub mod Wires
pub mod Links
pub mod Arriving
pub mod Laws
pub mod Lines
pub mod Scripts
