pub mod Lowest
pub mod Counts
pub mod Passed
pub mod Rows
pub mod Replies
pub mod Fine
