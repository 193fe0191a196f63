pub mod Total
pub mod Pairs
pub mod Passes
