pub mod Disks
pub mod Images
pub mod LogStates
pub mod Logs
pub mod Moments
