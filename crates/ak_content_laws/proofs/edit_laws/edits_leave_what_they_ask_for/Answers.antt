use Rattle.ak_content_laws.proofs.SoundEdits.{edit_asked_sound, edit_leaves_sound}
use Rattle.ak_content_laws.proofs.edit_laws.edits_leave_what_they_ask_for.Goals as goal

pub returns : goal.returns
returns c = λ at held after edit is. (edit_leaves_sound at held after edit is, edit_asked_sound at held after edit is)
