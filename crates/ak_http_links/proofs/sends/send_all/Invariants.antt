use Rattle.std.proofs.Common.{◌≡◌, length}
use Rattle.ak_faults.specs.Causes.{GoesOn}
use Rattle.ak_io.specs.Scripts.{Reached}
use Rattle.ak_http_links.proofs.sends.send_all.Given as goal

abbrev pub invariant-loop-rest : goal.invariant-loop-rest
invariant-loop-rest g l = record {
  so_far : Reached (g.L.Sink.written l.fn.link) (g.L.Sink.written l.link) l.bytes l.rest;
  apart : g.L.Source.left l.link ≡ g.L.Source.left l.fn.link;
  goes : GoesOn (g.L.End.health l.fn.link) (g.L.End.health l.link);
}

abbrev pub decreases-loop-rest : goal.decreases-loop-rest
decreases-loop-rest g l = length l.rest
