pub mod CheckedCards
pub mod CheckedNotes
pub mod MadeLawful
pub mod Runs
pub mod SizeLaws
