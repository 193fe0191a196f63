pub mod Odd
pub mod Climbs
pub mod Told
