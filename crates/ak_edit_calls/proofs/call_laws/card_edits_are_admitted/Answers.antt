use Rattle.ak_edit_calls.proofs.AdmittedEdits.{card_edits_are_admitted}
use Rattle.ak_edit_calls.proofs.call_laws.card_edits_are_admitted.Goals as goal

pub returns : goal.returns
returns c = card_edits_are_admitted
