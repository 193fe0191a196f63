pub mod Values
pub mod Arms
