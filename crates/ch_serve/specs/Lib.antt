pub mod Accepting
pub mod Webhooks
pub mod Served
pub mod GivenBack
pub mod Words
