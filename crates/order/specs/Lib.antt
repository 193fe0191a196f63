pub mod First
pub mod Down
