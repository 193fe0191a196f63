pub mod Limits
pub mod Sheet
pub mod Decode
pub mod Says
