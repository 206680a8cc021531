pub mod RequestTexts
pub mod AnswerHeads
pub mod Answers
pub mod Exchanges
pub mod HttpWires
