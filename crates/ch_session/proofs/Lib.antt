pub mod HearingLemmas
pub mod JudgingLemmas
pub mod LossLemmas
pub mod SettlingLemmas
pub mod Telling
