use Rattle.ak_merge.proofs.PartLaws.{pending_was_held}
use Rattle.ak_merge.proofs.part_laws.pending_was_held.Goals as goal

pub returns : goal.returns
returns c = pending_was_held
