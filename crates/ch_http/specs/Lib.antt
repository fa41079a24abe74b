pub mod Places
pub mod Headings
pub mod Lengths
pub mod Fed
pub mod Laws
pub mod Members
