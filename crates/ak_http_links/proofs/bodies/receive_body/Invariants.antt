use Rattle.std.proofs.Common.{◌≡◌, ◌-◌, ◌≤◌, length}
use Rattle.std.specs.Io.KnownBytes.{Consumes}
use Rattle.ak_faults.specs.Causes.{GoesOn}
use Rattle.ak_http_links.proofs.bodies.receive_body.Given as goal

abbrev pub invariant-loop-body : goal.invariant-loop-body
invariant-loop-body g l = record {
  so_far : Consumes (g.L.Source.left l.fn.link) (g.L.Source.left l.link) l.body.items;
  within : length l.body.items ≤ l.size;
  apart : g.L.Sink.written l.link ≡ g.L.Sink.written l.fn.link;
  goes : GoesOn (g.L.End.health l.fn.link) (g.L.End.health l.link);
}

abbrev pub decreases-loop-body : goal.decreases-loop-body
decreases-loop-body g l = l.size - length l.body.items
