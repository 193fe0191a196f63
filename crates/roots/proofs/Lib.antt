pub mod Roots
pub mod Unique
pub mod Arms
