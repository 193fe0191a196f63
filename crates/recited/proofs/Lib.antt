mod Same
pub mod Recites
mod First
mod Reading
mod Rows
pub mod Counting
