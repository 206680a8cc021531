pub mod GivenTypes
pub mod TypeAdditions
pub mod TypeDeletions
pub mod PlaceMaps
pub mod RetypedRows
pub mod RetypedCards
pub mod TypeEdits
