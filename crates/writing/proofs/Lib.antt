pub mod Heads
pub mod Fill
