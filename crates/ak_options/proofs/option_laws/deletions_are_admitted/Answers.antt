use Rattle.ak_options.proofs.AdmittedEdits.{deletions_are_admitted}
use Rattle.ak_options.proofs.option_laws.deletions_are_admitted.Goals as goal

pub returns : goal.returns
returns c = deletions_are_admitted
