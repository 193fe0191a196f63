pub mod Meaning
pub mod Decides
pub mod Lines
pub mod Judged
pub mod Functions
