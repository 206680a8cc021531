use Rattle.std.proofs.Common.{◌≡◌, ◌≤◌, ◌-◌, length}
use Rattle.std.specs.Io.KnownBytes.{Consumes}
use Rattle.ak_faults.specs.Causes.{GoesOn}
use Rattle.ak_http_wires.specs.AnswerHeads.{HasNoAnswerHead}
use Rattle.ak_http_wires.proofs.answer_heads.read_answer_head.Given as goal

-- the bytes so far are what the link gave, and they have no head of an answer
abbrev pub invariant-loop-bytes : goal.invariant-loop-bytes
invariant-loop-bytes g l =
    record {
      so_far : Consumes (g.L.Source.left l.fn.link) (g.L.Source.left l.link) l.bytes.items;
      size : length l.bytes.items ≤ 16_384;
      apart : g.L.Sink.written l.link ≡ g.L.Sink.written l.fn.link;
      none : HasNoAnswerHead l.bytes.items;
      goes : GoesOn (g.L.End.health l.fn.link) (g.L.End.health l.link);
    }

abbrev pub decreases-loop-bytes : goal.decreases-loop-bytes
decreases-loop-bytes g l = 16_384 - length l.bytes.items
