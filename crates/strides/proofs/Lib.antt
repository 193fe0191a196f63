pub mod Gaps
pub mod Small
pub mod Stride
pub mod Bound
pub mod Told
