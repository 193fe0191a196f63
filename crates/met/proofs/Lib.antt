pub mod Place
pub mod Entered
