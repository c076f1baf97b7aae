pub mod Text
pub mod Lists
pub mod Items
pub mod Lines
pub mod Stream
pub mod Turns
