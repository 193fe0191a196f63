pub mod Draft
