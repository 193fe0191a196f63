pub mod Clean
mod Examples
