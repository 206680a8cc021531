pub mod LinkReads
pub mod LinkWrites
pub mod ServedLinks
pub mod Isolation
