use Rattle.std.proofs.Common.{◌≡◌, ◌||◌, ℕ, List, length}
use Rattle.std.specs.BTreeSet.{contains_text}
use Rattle.ak_note_files.specs.Rules.{is_among}
use Rattle.ak_note_files.proofs.guids.set_of.Given as goal

-- what is in the set, and what is left, are all
abbrev pub invariant-loop-text : goal.invariant-loop-text
invariant-loop-text l = (text : List ℕ) → (contains_text l.set text || is_among text l.rest) ≡ is_among text l.texts

abbrev pub decreases-loop-text : goal.decreases-loop-text
decreases-loop-text l = length l.rest
