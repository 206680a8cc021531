pub mod Asked
pub mod Grants
pub mod Loops
pub mod Phases
pub mod Stops
