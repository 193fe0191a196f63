pub mod Row
pub mod Records
pub mod Bytes
