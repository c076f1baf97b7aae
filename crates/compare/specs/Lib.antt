pub mod Lines
pub mod Facts
pub mod Examples
pub mod Pairs
pub mod Next
pub mod Turns
