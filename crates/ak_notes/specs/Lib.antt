pub mod Additions
pub mod Deletions
pub mod GivenTexts
pub mod LackingNotes
pub mod MadeNotes
pub mod NewCards
pub mod NoteEdits
pub mod NoteRows
