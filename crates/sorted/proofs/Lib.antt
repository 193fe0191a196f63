pub mod Inserted
pub mod Unique
