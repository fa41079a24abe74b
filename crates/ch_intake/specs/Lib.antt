pub mod Orders
pub mod OrderLaws
pub mod PassModels
pub mod PassViews
pub mod QueueRule
