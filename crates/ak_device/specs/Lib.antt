pub mod Devices
pub mod Settlings
