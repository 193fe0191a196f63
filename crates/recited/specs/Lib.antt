pub mod Recited
pub mod Reading
