pub mod Ready
pub mod Keys
