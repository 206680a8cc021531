use Rattle.ak_edit_calls.proofs.AdmittedEdits.{row_edits_are_admitted}
use Rattle.ak_edit_calls.proofs.call_laws.row_edits_are_admitted.Goals as goal

pub returns : goal.returns
returns c = row_edits_are_admitted
