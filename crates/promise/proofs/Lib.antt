pub mod Unique
pub mod Exactly
pub mod Listing
pub mod Recorded
