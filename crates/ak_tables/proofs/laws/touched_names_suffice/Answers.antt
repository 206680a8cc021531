use Rattle.ak_tables.proofs.Covering.{touched_suffice}
use Rattle.ak_tables.proofs.laws.touched_names_suffice.Goals as goal

pub returns : goal.returns
returns c = touched_suffice
