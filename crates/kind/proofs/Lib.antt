pub mod Flat
pub mod Codes
pub mod Laws
pub mod Kind
pub mod Encode
