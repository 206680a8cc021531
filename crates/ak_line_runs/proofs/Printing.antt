-- Lines printed one after another.
use Rattle.std.proofs.Common.{◌≡◌, ℕ, suc, ◌+◌, ◌-◌, ◌<◌, List, [], ◌∷◌, ◌++◌, length, drop, take, get_or, Option, ap, sym, ◌∙◌, subst, take-append-drop, drop-cons, add-one, refl}
use Rattle.std.proofs.lemmas.List.{take_rest}
use Rattle.std.specs.Io.KnownBytes.{Appends}
use Rattle.ak_io.proofs.Scripts.{goes_on, stops, written_lines_append}
use Rattle.ak_io.specs.Scripts.{Reached, AppendsPart, written_lines}

-- the lines from a place on
lines_left : (lines : List (List ℕ)) (i : ℕ) (line : List ℕ) → i < length lines → line ≡ get_or lines i line
    → written_lines (drop i lines) ≡ (line ++ 10 ∷ []) ++ written_lines (drop (i + 1) lines)
lines_left lines i line within is =
    ap written_lines (drop-cons lines i line within)
    ∙ subst (λ (first : List ℕ). written_lines (first ∷ drop (suc i) lines) ≡ (line ++ 10 ∷ []) ++ written_lines (drop (i + 1) lines)) is (rw add-one refl)

-- ---- one by one
-- one more line was printed
pub line_printed : (w0 w1 w2 : Option (List ℕ)) (whole : List ℕ) (lines : List (List ℕ)) (i : ℕ) (line : List ℕ) → i < length lines → line ≡ get_or lines i line
    → Reached w0 w1 whole (written_lines (drop i lines)) → Appends w1 w2 (line ++ 10 ∷ []) → Reached w0 w2 whole (written_lines (drop (i + 1) lines))
line_printed w0 w1 w2 whole lines i line within is reached printed =
    goes_on w0 w1 w2 whole (line ++ 10 ∷ []) _ (subst (Reached w0 w1 whole) (lines_left lines i line within is) reached) printed

-- a part of one more line was printed
pub line_stopped : (w0 w1 w2 : Option (List ℕ)) (whole : List ℕ) (lines : List (List ℕ)) (i : ℕ) (line : List ℕ) → i < length lines → line ≡ get_or lines i line
    → Reached w0 w1 whole (written_lines (drop i lines)) → AppendsPart w1 w2 (line ++ 10 ∷ []) → AppendsPart w0 w2 whole
line_stopped w0 w1 w2 whole lines i line within is reached printed =
    stops w0 w1 w2 whole (line ++ 10 ∷ []) _ (subst (Reached w0 w1 whole) (lines_left lines i line within is) reached) printed

-- ---- many at once
-- the first lines, and those after them
fronts : (lines : List (List ℕ)) (n : ℕ) → written_lines lines ≡ written_lines (take n lines) ++ written_lines (drop n lines)
fronts lines n = ap written_lines (sym (take-append-drop n lines)) ∙ written_lines_append (take n lines) (drop n lines)

-- the first of the lines that were left were printed
pub front_printed : (w0 w1 w2 : Option (List ℕ)) (whole : List ℕ) (lines : List (List ℕ)) (n : ℕ) → Reached w0 w1 whole (written_lines lines)
    → Appends w1 w2 (written_lines (take n lines)) → Reached w0 w2 whole (written_lines (take (length lines - n) (drop n lines)))
front_printed w0 w1 w2 whole lines n reached printed =
    subst (λ l. Reached w0 w2 whole (written_lines l)) (sym (take_rest lines n))
    (goes_on w0 w1 w2 whole (written_lines (take n lines)) _ (subst (Reached w0 w1 whole) (fronts lines n) reached) printed)

-- a part of them was printed
pub front_stopped : (w0 w1 w2 : Option (List ℕ)) (whole : List ℕ) (lines : List (List ℕ)) (n : ℕ) → Reached w0 w1 whole (written_lines lines)
    → AppendsPart w1 w2 (written_lines (take n lines)) → AppendsPart w0 w2 whole
front_stopped w0 w1 w2 whole lines n reached printed =
    stops w0 w1 w2 whole (written_lines (take n lines)) _ (subst (Reached w0 w1 whole) (fronts lines n) reached) printed
