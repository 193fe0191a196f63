pub mod Told
mod Onward
pub mod Decides
