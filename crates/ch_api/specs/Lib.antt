pub mod RowOrder
pub mod Servable
pub mod Telling
