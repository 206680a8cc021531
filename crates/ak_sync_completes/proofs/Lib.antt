pub mod Asking
mod Bases
mod Checks
mod Completing
mod Disturbed
mod Faults
pub mod Forming
pub mod Granting
mod Graves
pub mod Joining
pub mod Metas
mod Reading
pub mod Running
pub mod Serving
pub mod Sides
pub mod Stopping
pub mod Undisturbed
