pub mod Blame
