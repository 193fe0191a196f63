pub mod Rows
pub mod Groups
pub mod Ways
pub mod Few
