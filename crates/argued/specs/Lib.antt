pub mod Draft
pub mod Argued
