pub mod Numbers
pub mod ThreeWords
pub mod Rounds
pub mod TwoCounts
pub mod Moved
pub mod Seating
pub mod Crossing
