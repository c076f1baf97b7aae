pub mod Decides
pub mod Walks
pub mod StoreWords
pub mod Places
pub mod Tails
pub mod OneWalk
pub mod Bumps
pub mod Runs
