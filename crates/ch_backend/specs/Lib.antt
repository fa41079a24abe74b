pub mod Exchanges
pub mod Composing
