pub mod CrossedSyncs
pub mod LabSessions
pub mod Replaying
pub mod Servings
pub mod Turns
