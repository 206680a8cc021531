pub mod Changes
pub mod Texts
pub mod Reads
pub mod Listed
