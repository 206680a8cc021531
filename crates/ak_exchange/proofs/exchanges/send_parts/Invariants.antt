use Rattle.std.proofs.Common.{Ok}
use Rattle.ak_exchange.specs.Loops.{HaveSentGraves}
use Rattle.ak_exchange.specs.Phases.{Advances}
use Rattle.ak_faults.specs.Causes.{GoesOn}
use Rattle.ak_keep.specs.Keepers.{IsMarkedAt, back}
use Rattle.ak_exchange.proofs.exchanges.send_parts.Given as goal

-- as many slices were sent, and settled, as parts were counted
abbrev pub invariant-loop-part : goal.invariant-loop-part
invariant-loop-part g l = record {
  leads : Advances {T = Unit {0}} 0 0 l.part (HaveSentGraves 0 l.graves) (HaveSentGraves l.part l.graves) l.met
      (g.K.Lookup.keeping l.fn.keeper) (g.K.Lookup.keeping l.keeper)
      (record { health = g.W.End.health l.fn.wire; wire = g.W.Wire.state l.fn.wire; envelopes = l.fn.envelopes })
      (record { health = g.W.End.health l.wire; wire = g.W.Wire.state l.wire; envelopes = l.envelopes }) (Ok tt);
  stays : IsMarkedAt (back (g.K.Lookup.keeping l.fn.keeper)) (g.K.Lookup.keeping l.keeper);
  goes : GoesOn (g.K.Lookup.health l.fn.keeper) (g.K.Lookup.health l.keeper);
}
