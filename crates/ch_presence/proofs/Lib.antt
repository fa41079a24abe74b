pub mod LeastId
pub mod NthUser
pub mod Counted
pub mod SameUsers
pub mod FirstRow
pub mod SameChanges
pub mod Crossing
