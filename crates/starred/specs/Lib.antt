pub mod Bytes
pub mod Claim
