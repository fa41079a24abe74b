pub mod Quiet
pub mod QuietExamples
pub mod Rate
pub mod RateExamples
