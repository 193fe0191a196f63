pub mod Step
pub mod True
