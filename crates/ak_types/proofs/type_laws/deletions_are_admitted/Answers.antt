use Rattle.ak_types.proofs.AdmittedEdits.{deletions_are_admitted}
use Rattle.ak_types.proofs.type_laws.deletions_are_admitted.Goals as goal

pub returns : goal.returns
returns c = deletions_are_admitted
