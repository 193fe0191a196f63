pub mod Kept
pub mod Ties
pub mod Order
pub mod Range
pub mod Relax
pub mod Short
pub mod Table
pub mod Walks
