pub mod Closing
pub mod Receiving
pub mod Sending
pub mod SettledRows
pub mod Settling
pub mod TakingAndSettling
