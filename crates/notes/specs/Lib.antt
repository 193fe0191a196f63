pub mod Limits
pub mod Search
pub mod Noted
