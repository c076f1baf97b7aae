pub mod Files
pub mod Machine
pub mod Ran
