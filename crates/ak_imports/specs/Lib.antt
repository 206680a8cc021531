pub mod Guids
pub mod Imports
pub mod KeptRows
pub mod NewNotes
pub mod NotesOfTypes
pub mod OwnTests
pub mod SameNotes
pub mod UnderWay
