pub mod Names
pub mod Marking
pub mod Having
pub mod Own
pub mod Resting
