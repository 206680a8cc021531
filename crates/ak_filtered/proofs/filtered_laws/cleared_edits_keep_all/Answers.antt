use Rattle.ak_filtered.proofs.ClearedOnes.{keeps_all}
use Rattle.ak_filtered.proofs.filtered_laws.cleared_edits_keep_all.Goals as goal

pub returns : goal.returns
returns c = keeps_all
