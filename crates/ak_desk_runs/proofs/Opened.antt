-- A keeper in which all was replaced between a mark and its commit.
use Rattle.std.proofs.Common.{◌≡◌, ℕ, true, false, ℤ, List, Option, Some, None, Result, Ok, Err, OnOk, IfOk, refl, ap, ◌∙◌, sym, subst}
use Rattle.std.specs.Io.KnownBytes.{Keeps}
use Rattle.ak_desk_runs.specs.Inits.{EndsInit, EndsInitOn, IsOpened, holding_only}
use Rattle.ak_keep.specs.Collections.{Holding}
use Rattle.ak_keep.specs.Keepers.{Keeping, committed, marked_here, replaced}
use Rattle.ak_keep.specs.Marks.{WithMark}
use Rattle.ak_keep.specs.declared.keepers.KeepFault.{KeepFault}
use Rattle.ak_line_runs.specs.declared.command_ends.CommandEnd.TheVariants as ends
use Rattle.ak_openings.specs.Openings.{IsOpening}
use Rattle.ak_openings.specs.declared.whole_collections.Opening.{Opening}

-- what is told, whatever was
told_only : (made : Opening) (k : Keeping) (told : Option (WithMark Holding))
    → (committed (replaced made.rows made.head (marked_here (record k { told = told })))).told ≡ (holding_only made (record k { told = told })).told
told_only made k None = refl
told_only made k (Some w) = refl

-- it holds this collection alone
pub replaced_only : (made : Opening) (k : Keeping) → committed (replaced made.rows made.head (marked_here k)) ≡ holding_only made k
replaced_only made k =
    ap (λ t. record { headed = record { current = true; mark = None }; told = t }) (told_only made k k.told)

-- a keeper that was marked, in which all was replaced, and which was committed if that was done
pub opened : (result put : Result (Unit {0}) KeepFault) (at : ℤ) (made : Opening) (k k1 k2 k3 : Keeping) → IsOpening at true made → k1 ≡ marked_here k
    → OnOk put (k2 ≡ replaced made.rows made.head k1) → OnOk result (k3 ≡ committed k2) → IfOk result (λ (value : Unit {0}). put ≡ Ok value)
    → OnOk result (IsOpened at k k3)
opened (Ok value) put at made k k1 k2 k3 is marked replaces commits done =
    let replaced_all : k2 ≡ replaced made.rows made.head k1 = subst (λ (r : Result (Unit {0}) KeepFault). OnOk r (k2 ≡ replaced made.rows made.head k1)) done replaces in
    (made, is, commits ∙ ap committed (replaced_all ∙ ap (replaced made.rows made.head) marked) ∙ replaced_only made k)
opened (Err fault) put at made k k1 k2 k3 is marked replaces commits done = tt

-- nothing is written
keeps_same : (w : Option (List ℕ)) → Keeps w w
keeps_same None = tt
keeps_same (Some bytes) = refl

-- `init` is done where no head was held
pub init_done : (at : ℤ) (before after : Keeping) (w : Option (List ℕ)) → before.headed.current ≡ false → IsOpened at before after → EndsInit at ends.Done before after w w
init_done at before after w none opened = subst (λ b. EndsInitOn b at ends.Done before after w w) (sym none) (opened, keeps_same w)
