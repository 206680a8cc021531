pub mod EarlyChecks
pub mod EarlyEnds
pub mod AnyEnds
pub mod AdmittedAnswers
