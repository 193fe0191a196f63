pub mod Reading
pub mod Writing
pub mod Signed
pub mod Bytes
