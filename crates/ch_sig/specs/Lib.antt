pub mod Hmac
pub mod MacState
pub mod Parameters
pub mod SignedText
