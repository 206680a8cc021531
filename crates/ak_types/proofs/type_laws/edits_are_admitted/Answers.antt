use Rattle.ak_types.proofs.AdmittedEdits.{edits_are_admitted}
use Rattle.ak_types.proofs.type_laws.edits_are_admitted.Goals as goal

pub returns : goal.returns
returns c = edits_are_admitted
