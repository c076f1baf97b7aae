pub mod Below
pub mod Powers
pub mod Laws
pub mod Ints
pub mod Flat
