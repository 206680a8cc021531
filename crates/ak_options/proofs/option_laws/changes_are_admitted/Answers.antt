use Rattle.ak_options.proofs.AdmittedEdits.{changes_are_admitted}
use Rattle.ak_options.proofs.option_laws.changes_are_admitted.Goals as goal

pub returns : goal.returns
returns c = changes_are_admitted
