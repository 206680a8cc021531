pub mod ServedDoors
pub mod ServerRuns
pub mod Failures
pub mod OneRun
