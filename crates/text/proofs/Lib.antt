pub mod Decimal
pub mod Shown
pub mod Through
pub mod Text
pub mod Place
pub mod Reached
pub mod Examples
