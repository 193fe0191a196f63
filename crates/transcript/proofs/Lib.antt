mod Join
pub mod Unique
pub mod Place
