use Rattle.ak_merge.proofs.WantedCounts.{unsent_never_grow, others_add_none}
use Rattle.ak_merge.proofs.part_laws.wanted_rows_never_grow.Goals as goal

pub returns : goal.returns
returns c = record { pending = unsent_never_grow; others = others_add_none }
