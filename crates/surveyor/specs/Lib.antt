pub mod Surveyed
pub mod Inside
