pub mod Held
pub mod Meet
