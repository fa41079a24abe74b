pub mod Lines
pub mod Moving
pub mod Pieces
pub mod Sockets
pub mod Utf8
