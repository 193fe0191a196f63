pub mod Decode
pub mod Told
pub mod Below
pub mod Numbers
pub mod Made
