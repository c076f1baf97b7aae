pub mod Pad
pub mod Mask
pub mod ByClass
pub mod Splitting
pub mod Numbered
pub mod Runs
pub mod Instances
