use Rattle.ak_content_laws.proofs.SaidTexts.{added_says}
use Rattle.ak_content_laws.proofs.note_laws.added_notes_say_what_was_given.Goals as goal

pub returns : goal.returns
returns c = added_says
