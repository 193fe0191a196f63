pub mod Limits
pub mod Loops
pub mod Fill
