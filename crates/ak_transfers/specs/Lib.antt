pub mod Forms
pub mod Greetings
pub mod Transfers
pub mod UploadParts
