pub mod Sound
pub mod Bounds
pub mod Rank
pub mod Pruned
pub mod Exact
pub mod Paths
