pub mod ReadBack
pub mod Saying
