pub mod Links
pub mod Doors
pub mod Dials
