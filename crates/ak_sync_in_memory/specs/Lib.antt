pub mod Betweens
pub mod Copies
pub mod Entries
pub mod LoggedServers
pub mod LoopWires
pub mod Mishaps
