pub mod Reasoned
pub mod OneReason
