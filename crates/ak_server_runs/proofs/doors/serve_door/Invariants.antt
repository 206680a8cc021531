use Rattle.ak_faults.specs.Causes.{GoesOn}
use Rattle.ak_server_runs.proofs.ServedSoFar.{HasServed}
use Rattle.ak_server_runs.proofs.doors.serve_door.Given as goal

abbrev pub invariant-loop-turn : goal.invariant-loop-turn
invariant-loop-turn g l = record {
  so_far : HasServed (record {
    left = g.D.Link.Source.left;
    written = g.D.Link.Sink.written;
    link_health = g.D.Link.End.health;
    keeping = g.K.Lookup.keeping;
    health = g.K.Lookup.health;
  }) l._turn (g.D.Door.state l.fn.door) (g.D.Door.state l.door)
      (record { accounts = l.fn.server; moments = g.C.Clock.to_come l.fn.clock }) (record { accounts = l.server; moments = g.C.Clock.to_come l.clock });
  goes : GoesOn (g.D.End.health l.fn.door) (g.D.End.health l.door);
}
