-- What was read of the line, where it is told, is gone from what the window and the source had, and it holds no line feed.
use Rattle.std.proofs.Common.{◌≡◌, ℕ, ◌+◌, false, List, length}
use Rattle.ak_faults.specs.Causes.{GoesOn}
use Rattle.std.specs.Io.KnownBytes.{Consumes, prepend_known}
use Rattle.ak_io.specs.Lines.{has_feed, as_read}
use Rattle.ak_io.specs.Reads.{line_of}
use Rattle.ak_io.proofs.readers.read_line.Given as goal

abbrev pub invariant-loop-line : goal.invariant-loop-line
invariant-loop-line g l =
    ((done : List ℕ) × (has_feed done ≡ false) × (line_of l.line ≡ as_read done) × (length done + l.left ≡ l.room)
    × Consumes (prepend_known l.fn.window (g.I.Source.left l.fn.input)) (prepend_known l.window (g.I.Source.left l.input)) done)
    × GoesOn (g.I.End.health l.fn.input) (g.I.End.health l.input)

abbrev pub decreases-loop-line : goal.decreases-loop-line
decreases-loop-line g l = l.left
