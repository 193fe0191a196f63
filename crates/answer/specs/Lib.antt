pub mod Record
pub mod Levels
