pub mod Level
pub mod Values
