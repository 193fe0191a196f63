pub mod Put
pub mod Right
pub mod Goes
