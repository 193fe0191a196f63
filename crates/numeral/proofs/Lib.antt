pub mod Told
mod Going
