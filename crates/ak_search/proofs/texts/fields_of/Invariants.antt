use Rattle.std.proofs.Common.{◌≡◌, ◌-◌, length, map}
use Rattle.ak_base.specs.NoteTexts.{fields_in}
use Rattle.ak_search.specs.CardFacts.{filled}
use Rattle.ak_search.proofs.texts.fields_of.Given as goal

-- filled up, the texts so far are the stored ones filled up
abbrev pub invariant-texts : goal.invariant-texts
invariant-texts l = filled l.count (map (λ text. text.now) l.texts.items) ≡ filled l.count (fields_in l.note.flds)

abbrev pub decreases-texts : goal.decreases-texts
decreases-texts l = l.count - length l.texts.items
