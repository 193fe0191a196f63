pub mod Laws
pub mod Lists
pub mod Greedy
pub mod Marks
