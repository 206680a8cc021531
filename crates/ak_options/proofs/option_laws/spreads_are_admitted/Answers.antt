use Rattle.ak_options.proofs.AdmittedEdits.{spreads_are_admitted}
use Rattle.ak_options.proofs.option_laws.spreads_are_admitted.Goals as goal

pub returns : goal.returns
returns c = spreads_are_admitted
