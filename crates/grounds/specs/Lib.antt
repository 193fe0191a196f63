pub mod Rows
pub mod Table
pub mod OnePart
pub mod Found
