pub mod Requests
pub mod HexTexts
pub mod Composed
