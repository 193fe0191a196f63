pub mod Bits
pub mod Rows
pub mod Firsts
pub mod Unique
