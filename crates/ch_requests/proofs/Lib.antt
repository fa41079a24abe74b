pub mod Computed
pub mod HandshakesComputed
