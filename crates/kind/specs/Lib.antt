pub mod Code
pub mod Meets
pub mod Kind
