pub mod Model
pub mod Reading
