pub mod Numbered
pub mod Completed
pub mod Within
