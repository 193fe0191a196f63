pub mod Trodden
