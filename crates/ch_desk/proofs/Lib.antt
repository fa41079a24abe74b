pub mod AnswerKinds
pub mod OwnEntries
pub mod MakingSteps
pub mod AloneCalls
pub mod Rows
