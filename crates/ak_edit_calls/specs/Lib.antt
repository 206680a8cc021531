pub mod Calls
pub mod CardEdits
pub mod DeckPaths
pub mod NewNames
pub mod Additions
pub mod NoteTags
pub mod RowEdits
