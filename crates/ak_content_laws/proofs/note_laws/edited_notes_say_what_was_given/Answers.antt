use Rattle.ak_content_laws.proofs.SaidTexts.{edited_says}
use Rattle.ak_content_laws.proofs.note_laws.edited_notes_say_what_was_given.Goals as goal

pub returns : goal.returns
returns c = edited_says
