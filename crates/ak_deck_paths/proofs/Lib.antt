mod PathFacts
mod MakingDecks
mod ShortPaths
mod CheckedDecks
pub mod PuttingDecks
mod Ending
mod AddedDecks
mod ChangedRows
mod MovedDecks
mod RenamedDecks
mod AdmittedPaths
