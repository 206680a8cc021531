pub mod EarlyAnswers
pub mod EarlyEdits
pub mod AwayAnswers
pub mod Answering
