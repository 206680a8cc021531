-- What is written of a text before a link fails.
use Rattle.std.proofs.Common.{◌≡◌, ℕ, ◌-◌, ◌<◌, List, ◌++◌, Option, None, Some, length, take, drop, sym, ap, ◌∙◌, subst, take-append-drop, append-nil}
use Rattle.std.proofs.lemmas.List.{take_rest}
use Rattle.std.specs.Io.KnownBytes.{Appends, Keeps}
use Rattle.ak_io.specs.Scripts.{Reached}
use Rattle.ak_io.proofs.Scripts.{goes_on}
use Rattle.ak_http_links.specs.LinkWrites.{AppendsFront}

-- what was known stays known while nothing is written
appends_kept : (w0 w1 w2 : Option (List ℕ)) (front : List ℕ) → Appends w0 w1 front → Keeps w1 w2 → Appends w0 w2 front
appends_kept None w1 w2 front written kept = tt
appends_kept (Some a) None w2 front written kept = absurd written
appends_kept (Some a) (Some b) None front written kept = absurd kept
appends_kept (Some a) (Some b) (Some c) front written kept = kept ∙ written

-- a write failed while some of the text was still to come
pub stops_before : (w0 w1 w2 : Option (List ℕ)) (whole rest : List ℕ) → Reached w0 w1 whole rest → 0 < length rest → Keeps w1 w2
    → AppendsFront w0 w2 whole
stops_before w0 w1 w2 whole rest (front, split, written) some kept = record {
  front = front;
  rest = rest;
  parts = split;
  unwritten = some;
  written = appends_kept w0 w1 w2 front written kept;
}

-- a write took nothing
pub takes_nothing : (w1 w2 : Option (List ℕ)) (rest : List ℕ) (n : ℕ) → n ≡ 0 → Appends w1 w2 (take n rest) → Keeps w1 w2
takes_nothing None w2 rest n none more = tt
takes_nothing (Some a) None rest n none more = absurd more
takes_nothing (Some a) (Some b) rest n none more = more ∙ ap (λ k. a ++ take k rest) none ∙ append-nil a

-- the front of what is to come was taken
pub moves_on : (w0 w1 w2 : Option (List ℕ)) (whole rest : List ℕ) (n : ℕ) → Reached w0 w1 whole rest → Appends w1 w2 (take n rest)
    → Reached w0 w2 whole (take (length rest - n) (drop n rest))
moves_on w0 w1 w2 whole rest n so_far more =
    let split : rest ≡ take n rest ++ take (length rest - n) (drop n rest) =
    sym (take-append-drop n rest) ∙ ap (λ l. take n rest ++ l) (sym (take_rest rest n)) in
    goes_on w0 w1 w2 whole (take n rest) _ (subst (Reached w0 w1 whole) split so_far) more
