pub mod DeckPaths
pub mod GivenPaths
pub mod NewDecks
pub mod ChangedDecks
pub mod Additions
pub mod Renames
