pub mod Answers
pub mod Closings
pub mod Wholes
