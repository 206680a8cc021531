-- What holds of every program that takes commands line by line: of what it wrote so far, and of what is still to come.
use Rattle.std.proofs.Common.{◌≡◌, ℕ, List, ◌∷◌, [], ◌++◌, Option, sym, ap, ◌∙◌, append_assoc}
use Rattle.std.proofs.lemmas.Grind.{flat_map-append}
use Rattle.std.specs.Io.KnownBytes.{Appends}
use Rattle.std.proofs.KnownBytes.{Appends-trans}
use Rattle.ak_io.specs.Scripts.{written_lines, AppendsPart, Reached}

-- ---- a part of what is to be written

-- a part is a part of a longer text
pub part_longer : (w0 w1 : Option (List ℕ)) (a b : List ℕ) → AppendsPart w0 w1 a → AppendsPart w0 w1 (a ++ b)
part_longer w0 w1 a b (front, rest, split, written) =
    (front, rest ++ b, ap (λ l. l ++ b) split ∙ append_assoc front rest b, written)

-- a part of what comes after a whole is a part of both
pub part_after : (w0 w1 w2 : Option (List ℕ)) (a b : List ℕ) → Appends w0 w1 a → AppendsPart w1 w2 b → AppendsPart w0 w2 (a ++ b)
part_after w0 w1 w2 a b written (front, rest, split, later) =
    (a ++ front, rest, ap (λ l. a ++ l) split ∙ sym (append_assoc a front rest), Appends-trans w0 w1 w2 a front written later)

-- ---- what is written so far, and what is still to come

-- what is next in what is to come was written
pub goes_on : (w0 w1 w2 : Option (List ℕ)) (whole a rest : List ℕ) → Reached w0 w1 whole (a ++ rest) → Appends w1 w2 a → Reached w0 w2 whole rest
goes_on w0 w1 w2 whole a rest (front, split, so_far) more =
    (front ++ a, split ∙ sym (append_assoc front a rest), Appends-trans w0 w1 w2 front a so_far more)

-- only a part of what is next was written
pub stops : (w0 w1 w2 : Option (List ℕ)) (whole a rest : List ℕ) → Reached w0 w1 whole (a ++ rest) → AppendsPart w1 w2 a → AppendsPart w0 w2 whole
stops w0 w1 w2 whole a rest (front, split, so_far) (more, left, part, written) = (
  front ++ more,
  left ++ rest,
  split ∙ ap (λ l. front ++ l) (ap (λ l. l ++ rest) part ∙ append_assoc more left rest) ∙ sym (append_assoc front more (left ++ rest)),
  Appends-trans w0 w1 w2 front more so_far written,
)

-- ---- the bytes of lines

pub written_lines_append : (a b : List (List ℕ)) → written_lines (a ++ b) ≡ written_lines a ++ written_lines b
written_lines_append a b = flat_map-append (λ line. line ++ 10 ∷ []) a b
