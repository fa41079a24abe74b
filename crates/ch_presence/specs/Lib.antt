pub mod Members
pub mod Users
pub mod Subscribed
