pub mod Verdicts
pub mod Files
pub mod Turning
pub mod Taking
pub mod Running
pub mod Examples
