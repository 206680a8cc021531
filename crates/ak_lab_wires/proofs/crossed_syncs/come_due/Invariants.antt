use Rattle.std.proofs.Common.{drop}
use Rattle.ak_lab_wires.specs.CrossedSyncs.{ActsOnce, CrossState, cross_state}
use Rattle.ak_lab_wires.specs.Turns.{InTurn, due}
use Rattle.ak_sync_in_memory.specs.Betweens.{ActEnd}
use Rattle.ak_sync_in_memory.specs.Entries.{LoggedState}
use Rattle.ak_lab_wires.proofs.crossed_syncs.come_due.Given as goal

-- what the acts that are left make, after those so far, is what all make
abbrev pub invariant-loop-it : goal.invariant-loop-it
invariant-loop-it l = (now : CrossState) (new : LoggedState) (came : ActEnd)
    → InTurn (ActsOnce l.fn.session.0) (due l.fn.call (drop l.it-index l.planned)) (cross_state l.lab) now l.server new came
    → InTurn (ActsOnce l.fn.session.0) (due l.fn.call l.planned) (cross_state l.fn.lab) now l.fn.server new came
