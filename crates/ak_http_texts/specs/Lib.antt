pub mod Refusals
pub mod ReplyTexts
