use Rattle.ak_merge.proofs.Settling.{settled_first, pending_left}
use Rattle.ak_merge.proofs.part_laws.settling_may_come_first.Goals as goal

pub returns : goal.returns
returns c = record { rows = settled_first; pending = pending_left }
