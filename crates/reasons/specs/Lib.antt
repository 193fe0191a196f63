pub mod Step
pub mod Rules
pub mod Reason
pub mod Pruned
