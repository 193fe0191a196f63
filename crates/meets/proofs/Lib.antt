pub mod Counted
pub mod Keyed
pub mod Joined
