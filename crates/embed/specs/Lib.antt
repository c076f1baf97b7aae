pub mod Lent
pub mod Layout
