pub mod Values
pub mod Forms
pub mod Faults
pub mod Fronts
pub mod Steps
pub mod OneReading
pub mod Finds
