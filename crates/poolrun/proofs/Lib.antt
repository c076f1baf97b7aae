pub mod Surfaces
pub mod Answering
pub mod Paper
