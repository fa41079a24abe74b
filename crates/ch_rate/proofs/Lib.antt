pub mod RateLemmas
pub mod Computed
