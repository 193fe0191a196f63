pub mod Standing
pub mod Finding
pub mod Gathering
