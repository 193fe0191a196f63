pub mod Gaps
pub mod Groups
pub mod Common
pub mod Few
pub mod Told
pub mod Joins
pub mod Known
pub mod Ties
