pub mod Sockets
pub mod Turns
pub mod Responses
