pub mod Simulation
pub mod Steps
pub mod Told
pub mod OpenSigns
pub mod Seating
pub mod Crossing
