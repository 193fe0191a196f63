pub mod Model
pub mod Keys
