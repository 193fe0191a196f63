pub mod Needed
pub mod Support
