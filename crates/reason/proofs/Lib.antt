mod Join
pub mod Unique
