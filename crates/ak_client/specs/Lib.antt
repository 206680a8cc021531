pub mod Endings
pub mod Greetings
pub mod Outcomes
pub mod States
pub mod Syncs
pub mod Unsent
