pub mod Turns
pub mod Laid
pub mod Text
pub mod Files
