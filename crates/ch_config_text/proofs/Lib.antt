pub mod Computed
pub mod NumberLemmas
pub mod PartLemmas
pub mod ReadLemmas
