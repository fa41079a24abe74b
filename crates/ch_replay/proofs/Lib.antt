pub mod ExactLemmas
pub mod GivenLemmas
pub mod LineEnds
pub mod Naming
pub mod PlayableLemmas
pub mod Reading
pub mod Running
