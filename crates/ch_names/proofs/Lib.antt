pub mod Computed
pub mod FaultLemmas
pub mod SocketIdLemmas
pub mod UserChannelLemmas
