pub mod Keys
pub mod Arms
