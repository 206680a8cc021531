use Rattle.std.proofs.Common.{◌≡◌, ◌||◌, ◌<◌, ℕ, suc, pos, false, drop}
use Rattle.std.specs.List.{slice_index_or}
use Rattle.ak_cardgen.specs.Generation.{has_number}
use Rattle.ak_cardgen.proofs.cloze_ords.marks_of.Given as goal

-- the ords that were marked, and those of the numbers that are left
abbrev pub invariant-loop-number : goal.invariant-loop-number
invariant-loop-number l = (ord : ℕ) → ord < 500 → (slice_index_or l.marks ord false || has_number (pos (suc ord)) (drop l.number-index l.numbers)) ≡ has_number (pos (suc ord)) l.numbers
