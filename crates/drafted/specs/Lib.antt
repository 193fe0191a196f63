pub mod Drafted
pub mod Ending
