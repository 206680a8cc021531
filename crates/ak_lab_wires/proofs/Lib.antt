pub mod Alone
pub mod Between
mod Crossing
pub mod Keeping
pub mod Kept
pub mod Named
pub mod Running
pub mod Serving
pub mod Transferring
mod Turning
