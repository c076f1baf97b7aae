pub mod Fitting
pub mod Ends
pub mod Cutting
pub mod Tails
pub mod Numbered
pub mod Single
