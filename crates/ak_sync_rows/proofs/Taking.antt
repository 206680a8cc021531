-- The next of some rows is taken into a keeper.
use Rattle.std.specs.Prelude.{◌≡◌, ℕ, ℤ, ◌+◌, ◌<◌, List, ◌∷◌, length, map, drop, get_or}
use Rattle.std.proofs.Common.{sym, ap, ◌∙◌}
use Rattle.std.proofs.lemmas.List.{drop_more}
use Rattle.ak_base.specs.declared.rows.Row.{Row}
use Rattle.ak_keep.specs.Keepers.{Keeping, IsMarkedAt, back, changed}
use Rattle.ak_merge.specs.Takings.{with_taken}
use Rattle.ak_sync_rows.specs.Takes.{rows_taken}
use Rattle.ak_merge.specs.declared.sides.Side.{Side}

-- once the next row is taken, those that are left lead to the same
pub next_taken : {X : Type 0} (f : X → Row) (side : Side) (usn : ℤ) (xs : List X) (i : ℕ) (x : X) (row : Row) (k new all : Keeping) → i < length xs → x ≡ get_or xs i x
    → row ≡ f x → rows_taken side usn (map f (drop i xs)) k ≡ all → new ≡ changed (with_taken side usn row) k
    → rows_taken side usn (map f (drop (i + 1) xs)) new ≡ all
next_taken {X = X} f side usn xs i x row k new all low is made so taken =
    ap (rows_taken side usn (map f (drop (i + 1) xs))) (taken ∙ ap (λ (r : Row). changed (with_taken side usn r) k) made)
    ∙ sym (ap (λ (ys : List X). rows_taken side usn (map f ys) k) (drop_more xs i x low ∙ ap (λ (y : X). y ∷ drop (i + 1) xs) (sym is)))
    ∙ so

-- the same of an item that is read where it is passed on
pub next_taken_at : {X : Type 0} (f : X → Row) (side : Side) (usn : ℤ) (xs : List X) (i : ℕ) (d : X) (row : Row) (k new all : Keeping) → i < length xs
    → row ≡ f (get_or xs i d) → rows_taken side usn (map f (drop i xs)) k ≡ all → new ≡ changed (with_taken side usn row) k
    → rows_taken side usn (map f (drop (i + 1) xs)) new ≡ all
next_taken_at {X = X} f side usn xs i d row k new all low made so taken =
    ap (rows_taken side usn (map f (drop (i + 1) xs))) (taken ∙ ap (λ (r : Row). changed (with_taken side usn r) k) made)
    ∙ sym (ap (λ (ys : List X). rows_taken side usn (map f ys) k) (drop_more xs i d low))
    ∙ so

-- a mark leads back to where it led
pub stays_marked : (start k new : Keeping) → IsMarkedAt start k → IsMarkedAt (back k) new → IsMarkedAt start new
stays_marked start k new before after = record { marked = after.marked; back = after.back ∙ before.back }
