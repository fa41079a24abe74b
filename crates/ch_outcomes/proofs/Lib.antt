pub mod ComputedOutcomes
pub mod OneOutcome
pub mod OneSense
pub mod PlainTexts
pub mod SubscribeTexts
pub mod Worked
