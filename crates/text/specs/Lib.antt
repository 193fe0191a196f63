pub mod Text
pub mod Print
pub mod Typed
pub mod Machine
pub mod Reach
