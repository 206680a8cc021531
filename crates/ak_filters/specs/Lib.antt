pub mod Meanings
pub mod Strips
pub mod Readings
pub mod Lists
