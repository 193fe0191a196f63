pub mod Fronts
pub mod Groups
pub mod Back
pub mod Growing
