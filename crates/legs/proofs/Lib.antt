pub mod Words
pub mod Walks
mod Laid
