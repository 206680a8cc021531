use Rattle.ak_exchange.proofs.Parts.{HasTurned, sent}
use Rattle.ak_exchange.specs.Loops.{HavePushed}
use Rattle.ak_exchange.specs.Phases.{at_end_of}
use Rattle.ak_faults.specs.Causes.{GoesOn}
use Rattle.ak_keep.specs.Keepers.{IsMarkedAt, back}
use Rattle.ak_session.specs.Plans.{planned_chunks}
use Rattle.ak_exchange.proofs.exchanges.push.Given as goal

-- as many chunks were sent, and settled, as turns went by, and none was the last one
abbrev pub invariant-loop-turn : goal.invariant-loop-turn
invariant-loop-turn g l = record {
  turned : HasTurned 0 l._turn (at_end_of planned_chunks) (HavePushed l._turn l.from) l.met (g.K.Lookup.keeping l.fn.keeper) (g.K.Lookup.keeping l.keeper)
      (record { health = g.W.End.health l.fn.wire; wire = g.W.Wire.state l.fn.wire; envelopes = l.fn.envelopes })
      (record { health = g.W.End.health l.wire; wire = g.W.Wire.state l.wire; envelopes = l.envelopes }) l._turn sent;
  stays : IsMarkedAt (back (g.K.Lookup.keeping l.fn.keeper)) (g.K.Lookup.keeping l.keeper);
  goes : GoesOn (g.K.Lookup.health l.fn.keeper) (g.K.Lookup.health l.keeper);
}
