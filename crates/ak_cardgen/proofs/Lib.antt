pub mod Ascending
pub mod Emptiness
pub mod Generating
pub mod Marks
pub mod Places
