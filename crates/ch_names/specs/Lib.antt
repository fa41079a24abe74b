pub mod Faults
pub mod KindMeaning
pub mod SocketIdExamples
pub mod SocketIds
