pub mod Accepted
pub mod DeskStates
pub mod LineEnds
pub mod LineSteps
pub mod Refused
