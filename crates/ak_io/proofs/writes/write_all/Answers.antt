use Rattle.std.proofs.Common.{◌≡◌, ℕ, ◌-◌, List, ◌++◌, Option, length, take, drop, sym, ap, ◌∙◌, subst, take-append-drop}
use Rattle.std.proofs.lemmas.List.{take_rest}
use Rattle.ak_faults.proofs.Healths.{goes_further}
use Rattle.std.specs.Io.KnownBytes.{Appends}
use Rattle.ak_io.specs.Scripts.{Reached}
use Rattle.ak_io.proofs.Scripts.{goes_on}
use Rattle.ak_io.proofs.writes.write_all.Goals as goal

-- the front of what is to come was taken
moves_on : (w0 w1 w2 : Option (List ℕ)) (whole rest : List ℕ) (n : ℕ) → Reached w0 w1 whole rest → Appends w1 w2 (take n rest)
    → Reached w0 w2 whole (take (length rest - n) (drop n rest))
moves_on w0 w1 w2 whole rest n so_far more =
    let split : rest ≡ take n rest ++ take (length rest - n) (drop n rest) =
    sym (take-append-drop n rest) ∙ ap (λ l. take n rest ++ l) (sym (take_rest rest n)) in
    goes_on w0 w1 w2 whole (take n rest) _ (subst (Reached w0 w1 whole) split so_far) more

pub loop-rest-preserved : goal.loop-rest-preserved
loop-rest-preserved g c = (
  moves_on _ _ _ _ c.loop-rest.rest.now c.in_ok-count.count c.loop-rest.invariant.0 c.in_ok-count.ensures.bytes,
  goes_further c.loop-rest.invariant.1 c.in_ok-count.ensures.cause.goes,
)
