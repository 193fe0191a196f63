pub mod Met
pub mod Parts
