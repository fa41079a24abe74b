pub mod Carried
pub mod Numbers
pub mod HexTexts
pub mod ShardTails
