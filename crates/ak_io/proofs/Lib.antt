pub mod FirstLines
pub mod Readings
pub mod Scripts
