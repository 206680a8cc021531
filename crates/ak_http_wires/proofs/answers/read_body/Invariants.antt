use Rattle.std.proofs.Common.{◌≡◌, ◌≤◌, ◌-◌, length}
use Rattle.std.specs.Io.KnownBytes.{Consumes}
use Rattle.ak_faults.specs.Causes.{GoesOn}
use Rattle.ak_http_wires.proofs.answers.read_body.Given as goal

-- the bytes so far are what the link gave, and no more than are wanted
abbrev pub invariant-loop-body : goal.invariant-loop-body
invariant-loop-body g l =
    record {
      so_far : Consumes (g.L.Source.left l.fn.link) (g.L.Source.left l.link) l.body.items;
      size : length l.body.items ≤ l.size;
      apart : g.L.Sink.written l.link ≡ g.L.Sink.written l.fn.link;
      goes : GoesOn (g.L.End.health l.fn.link) (g.L.End.health l.link);
    }

abbrev pub decreases-loop-body : goal.decreases-loop-body
decreases-loop-body g l = l.size - length l.body.items
