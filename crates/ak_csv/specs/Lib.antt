pub mod CsvTexts
pub mod NoteRecords
pub mod NotesAgain
pub mod RecordRows
