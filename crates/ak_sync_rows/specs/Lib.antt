pub mod Chunks
pub mod Takes
pub mod Walks
