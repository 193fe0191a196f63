pub mod Pieces
pub mod Bounds
pub mod Heads
pub mod Walks
pub mod Steps
pub mod Ranks
pub mod Lists
pub mod Kept
