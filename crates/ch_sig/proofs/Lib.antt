pub mod AuthorizationLemmas
pub mod BitLemmas
pub mod ParameterLemmas
pub mod QueryLemmas
