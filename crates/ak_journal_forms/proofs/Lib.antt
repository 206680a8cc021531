pub mod Lists
pub mod Bytes
pub mod FrameLists
pub mod Readings
pub mod Images
pub mod Places
