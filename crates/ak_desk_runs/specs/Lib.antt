pub mod DeskRuns
pub mod Inits
pub mod LineOutcomes
pub mod RunStates
pub mod TextStops
