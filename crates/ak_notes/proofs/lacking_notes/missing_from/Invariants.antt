use Rattle.std.proofs.Common.{◌≡◌, ◌++◌, drop}
use Rattle.ak_notes.specs.LackingNotes.{missing_from}
use Rattle.ak_notes.proofs.lacking_notes.missing_from.Given as goal

-- with those of the other ords, the ords so far are all that are missing
abbrev pub invariant-loop-ord : goal.invariant-loop-ord
invariant-loop-ord l = l.missing ++ missing_from l.there (drop l.ord-index l.ords) ≡ missing_from l.there l.ords
