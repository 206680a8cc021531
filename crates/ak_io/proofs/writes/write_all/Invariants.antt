use Rattle.std.proofs.Common.{length}
use Rattle.ak_faults.specs.Causes.{GoesOn}
use Rattle.ak_io.specs.Scripts.{Reached}
use Rattle.ak_io.proofs.writes.write_all.Given as goal

abbrev pub invariant-loop-rest : goal.invariant-loop-rest
invariant-loop-rest g l =
    Reached (g.O.Sink.written l.fn.out) (g.O.Sink.written l.out) l.bytes l.rest
    × GoesOn (g.O.End.health l.fn.out) (g.O.End.health l.out)

abbrev pub decreases-loop-rest : goal.decreases-loop-rest
decreases-loop-rest g l = length l.rest
