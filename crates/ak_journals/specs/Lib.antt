pub mod Moments
pub mod States
pub mod Journals
pub mod Faults
