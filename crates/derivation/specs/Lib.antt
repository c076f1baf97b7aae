pub mod Pad
pub mod Classes
pub mod Answers
pub mod FieldRanges
pub mod Lists
