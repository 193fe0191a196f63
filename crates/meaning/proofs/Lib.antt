pub mod Meaning
pub mod Decides
pub mod Empty
pub mod Check
pub mod Clash
pub mod Judged
