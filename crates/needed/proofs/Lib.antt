pub mod Marking
pub mod Copying
pub mod Arguing
pub mod Supporting
pub mod Gathering
