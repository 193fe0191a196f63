pub mod Laid
pub mod Longer
