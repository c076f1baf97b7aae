pub mod Book
pub mod Parts
pub mod Walks
pub mod Events
pub mod Places
pub mod Judging
pub mod Hears
pub mod Pairs
