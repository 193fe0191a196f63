pub mod Worth
mod Read
pub mod Panel
