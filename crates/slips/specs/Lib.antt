pub mod Slips
pub mod Says
pub mod Outcome
