pub mod Trees
pub mod DeckDeletions
