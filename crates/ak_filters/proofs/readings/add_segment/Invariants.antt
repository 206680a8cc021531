use Rattle.std.proofs.Common.{◌≡◌, ◌++◌, ◌∷◌, ℕ, false, List, string_bytes, length}
use Rattle.std.specs.Prelude.{codes}
use denote.Text.{Utf8}
use denote.Shadow.{shadow}
use Rattle.ak_base.specs.Cuts.{has}
use Rattle.ak_filters.specs.Readings.{shown_from, line_length}
use Rattle.ak_filters.proofs.readings.add_segment.Given as goal

-- what is made, with what is shown of the rest, is what is shown of the segment; the rest ends with the segment's last line
abbrev pub invariant-loop-before : goal.invariant-loop-before
invariant-loop-before l = record {
  text : shadow (Utf8 l.rest);
  lacks : has (codes "]") l.rest ≡ false;
  line : (n : ℕ) × (l.line ≡ line_length n l.rest);
  so_far : (others : List ℕ) → string_bytes l.fn.made ++ shown_from l.part 0 (l.segment ++ (93 ∷ others)) ≡ string_bytes l.made ++ shown_from l.part 0 (l.rest ++ (93 ∷ others));
}

abbrev pub decreases-loop-before : goal.decreases-loop-before
decreases-loop-before l = length l.rest
