pub mod Rows
pub mod Columns
pub mod Left
pub mod Houses
pub mod Pairs
pub mod Closes
pub mod OwnEntries
pub mod DeskViews
