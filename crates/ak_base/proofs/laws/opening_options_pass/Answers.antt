use Rattle.ak_base.proofs.OpeningOptions.{opening_passes}
use Rattle.ak_base.proofs.laws.opening_options_pass.Goals as goal

pub returns : goal.returns
returns c = opening_passes
