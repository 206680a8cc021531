pub mod Stripped
pub mod Stripping
pub mod Signs
pub mod Reading
pub mod Dropping
