pub mod Fitting
pub mod Answering
pub mod Paper
