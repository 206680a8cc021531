use Rattle.ak_exchange.proofs.Parts.{HasTurned, came}
use Rattle.ak_exchange.specs.Loops.{HavePulled}
use Rattle.ak_exchange.specs.Phases.{HasReceived, at_end_of}
use Rattle.ak_faults.specs.Causes.{GoesOn}
use Rattle.ak_keep.specs.Keepers.{IsMarkedAt, back}
use Rattle.ak_session.specs.Plans.{planned_changes}
use Rattle.ak_exchange.proofs.exchanges.pull.Given as goal

-- as many chunks came as turns went by, and none was the last one
abbrev pub invariant-loop-turn : goal.invariant-loop-turn
invariant-loop-turn g l = record {
  turned : HasTurned l._turn 0 (at_end_of planned_changes) (HavePulled l._turn) l.met (g.K.Lookup.keeping l.fn.keeper) (g.K.Lookup.keeping l.keeper)
      (record { health = g.W.End.health l.fn.wire; wire = g.W.Wire.state l.fn.wire; envelopes = l.fn.envelopes })
      (record { health = g.W.End.health l.wire; wire = g.W.Wire.state l.wire; envelopes = l.envelopes }) l._turn came;
  stays : IsMarkedAt (back (g.K.Lookup.keeping l.fn.keeper)) (g.K.Lookup.keeping l.keeper);
  took : HasReceived l.met.meta.usn (g.K.Lookup.keeping l.fn.keeper) (g.K.Lookup.keeping l.keeper);
  goes : GoesOn (g.K.Lookup.health l.fn.keeper) (g.K.Lookup.health l.keeper);
}
