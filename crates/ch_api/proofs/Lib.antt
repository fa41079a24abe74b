pub mod JoinedTexts
pub mod PlannedRequests
pub mod RowOrderLemmas
pub mod RowsByName
pub mod ServablePlans
pub mod Timestamps
pub mod ToldCounts
