pub mod AnswerTexts
pub mod FaultTexts
