pub mod Closed
pub mod Walk
pub mod Table
