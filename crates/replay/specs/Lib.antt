pub mod Machine
pub mod Kept
