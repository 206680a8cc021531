pub mod Deciding
pub mod Summing
pub mod Twins
pub mod Uploads
