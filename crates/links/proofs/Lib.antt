pub mod Words
pub mod Climbing
pub mod Hanging
