pub mod DeckOptions
pub mod Flags
pub mod Moves
