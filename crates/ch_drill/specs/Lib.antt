pub mod DrillWords
pub mod DrillCounts
pub mod DrillText
pub mod DrillLinks
pub mod DrillCloses
pub mod DrillRuns
pub mod Seats
