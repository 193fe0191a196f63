pub mod Judged
pub mod Entered
