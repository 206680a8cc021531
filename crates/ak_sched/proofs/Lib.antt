pub mod Buttons
pub mod Checks
pub mod Days
pub mod Faults
pub mod Forgotten
pub mod Multiples
pub mod Numbers
pub mod Unique
