pub mod Laid
pub mod Draft
