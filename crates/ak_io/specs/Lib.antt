pub mod Arrivals
pub mod Ends
pub mod Lines
pub mod Reads
pub mod Scripts
pub mod Endings
pub mod Generator
