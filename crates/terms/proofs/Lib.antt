pub mod Told
mod Answered
pub mod Kept
