pub mod Next
pub mod Machine
pub mod Answers
pub mod Turns
