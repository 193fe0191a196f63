pub mod Xor
pub mod Climbing
