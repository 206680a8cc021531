pub mod Answering
pub mod Finishing
pub mod InTables
pub mod Marking
pub mod NextChunk
pub mod Receiving
pub mod Uploading
