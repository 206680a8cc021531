use Rattle.std.proofs.Common.{ℤ, drop}
use Rattle.ak_lab_wires.specs.Replaying.{ReplaysOne}
use Rattle.ak_lab_wires.specs.Turns.{InTurn, due}
use Rattle.ak_sync_in_memory.specs.Betweens.{ActEnd}
use Rattle.ak_sync_in_memory.specs.Entries.{LoggedState}
use Rattle.ak_lab_wires.proofs.replayed_requests.replay_due.Given as goal

-- what the acts that are left make, after those so far, is what all make
abbrev pub invariant-loop-it : goal.invariant-loop-it
invariant-loop-it l = (now : ℤ) (new : LoggedState) (came : ActEnd)
    → InTurn ReplaysOne (due l.fn.call (drop l.it-index l.planned)) l.fn.at now l.server new came
    → InTurn ReplaysOne (due l.fn.call l.planned) l.fn.at now l.fn.server new came
