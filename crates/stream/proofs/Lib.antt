pub mod Keeping
pub mod Running
pub mod Laying
pub mod Spelling
pub mod Sides
