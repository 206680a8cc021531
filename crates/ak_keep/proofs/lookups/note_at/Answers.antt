use Rattle.std.proofs.Common.{w64, SFits}
use Rattle.std.proofs.lemmas.Int.{to_z-of_z}
use Rattle.ak_keep.proofs.lookups.note_at.Goals as goal

pub returns-clause-checked : goal.returns-clause-checked
returns-clause-checked g c = λ checks. c.as_note.ensures.checked (c.in_ok-row.ensures.checked checks)

pub returns-clause-named : goal.returns-clause-named
returns-clause-named g c =
    let fits : SFits w64 c.args.id = c.ranges.id in
    simp to_z-of_z at (c.as_note.ensures.named _ c.in_ok-row.ensures.named)
