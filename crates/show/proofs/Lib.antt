pub mod Places
pub mod Items
pub mod Wording
pub mod Lining
pub mod Turning
pub mod Running
pub mod Examples
pub mod Back
