pub mod AnswerFronts
pub mod AnswerSteps
pub mod Bodies
pub mod Exchanging
pub mod Readings
pub mod Texts
