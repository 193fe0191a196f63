pub mod Transcribed
