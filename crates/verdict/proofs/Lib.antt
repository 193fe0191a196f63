pub mod Rest
pub mod Ground
pub mod Final
pub mod Exactly
