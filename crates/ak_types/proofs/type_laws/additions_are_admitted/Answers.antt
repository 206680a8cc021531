use Rattle.ak_types.proofs.AdmittedEdits.{additions_are_admitted}
use Rattle.ak_types.proofs.type_laws.additions_are_admitted.Goals as goal

pub returns : goal.returns
returns c = additions_are_admitted
