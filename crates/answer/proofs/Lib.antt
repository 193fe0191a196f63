pub mod Tells
pub mod Read
pub mod Values
