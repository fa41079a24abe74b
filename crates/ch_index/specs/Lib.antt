pub mod Holders
pub mod Nest
pub mod Rows
pub mod Numbered
