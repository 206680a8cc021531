pub mod FlaggedCards
pub mod MovedCards
pub mod UsedOptions
pub mod AdmittedCalls
