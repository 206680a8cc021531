use Rattle.ak_note_files.proofs.Returning.{notes_return}
use Rattle.ak_note_files.proofs.note_file_laws.exported_notes_return.Goals as goal

pub returns : goal.returns
returns c = notes_return
