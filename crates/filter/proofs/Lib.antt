pub mod Fitting
pub mod Answering
pub mod Turning
pub mod Running
pub mod Bringing
