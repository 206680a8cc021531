mod Coming
mod Copied
mod Desks
mod Going
mod Numbers
pub mod Openings
mod Planned
mod Preparing
mod Shifting
mod Syncing
