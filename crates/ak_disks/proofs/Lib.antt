pub mod Draws
pub mod Events
pub mod Kept
pub mod Torn
pub mod Tearing
