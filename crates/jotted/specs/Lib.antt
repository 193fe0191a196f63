pub mod Jotted
