pub mod Longer
pub mod Inputs
pub mod Tables
pub mod Laying
pub mod Turn
