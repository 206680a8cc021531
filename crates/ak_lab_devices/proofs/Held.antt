-- What is known of a keeper, of the collection that is seen in its place.
use Rattle.std.proofs.Common.{◌≡◌, refl, ℕ, List, subst, true, is_some, Option, Some, None, Result, Ok, Err, IfOk}
use Rattle.ak_base.specs.declared.heads.Head.{Head}
use Rattle.ak_keep.specs.Collections.{Collection, Holding, is_headed}
use Rattle.ak_keep.specs.Marks.{WithMark}
use Rattle.ak_lab_devices.proofs.Holding.{holds_it, with_head}
use Rattle.ak_lab_devices.specs.RestingKeepers.{Holds}
use Rattle.ak_lab_devices.specs.Shows.{shown_lines}
use Rattle.ak_lab_lines.specs.declared.lab_lines.Shown.{Shown}
use Rattle.ak_messages.specs.declared.requests.SanityCounts.{SanityCounts}
use Rattle.ak_session.specs.Answers.{counts_of}

-- what is true of what was read is true of what is told of it
pub told_so : {T E F : Type 0} (P : T → Type 0) (read : Result T F) (result : Result T E) → IfOk read P → IfOk result (λ it. read ≡ Ok it) → IfOk result P
told_so P read (Err fault) is told = tt
told_so {T = T} {F = F} P read (Ok it) is told = subst (λ (r : Result T F). IfOk r P) told is

some_is : {T : Type 0} (o : Option T) → is_some o ≡ true → (x : T) × (o ≡ Some x)
some_is None held = cc
some_is (Some x) held = (x, refl)

-- a keeper that holds a head holds a collection, and the counts of its rows are that one's
counted_there : {E : Type 0} (kept : WithMark Holding) (result : Result SanityCounts E) → is_headed kept.current ≡ true
    → IfOk result (λ counts. counts ≡ counts_of kept.current.rows)
    → IfOk result (λ counts. (c : Collection) × Holds kept c × (counts ≡ counts_of c.rows))
counted_there kept (Err fault) held is = tt
counted_there kept (Ok counts) held is =
    let head : (h : Head) × (kept.current.head ≡ Some h) = some_is kept.current.head held in
    (with_head kept head.0, holds_it kept head.0 head.1, is)

pub counted : {E : Type 0} (kept seen : WithMark Holding) (result : Result SanityCounts E) → kept ≡ seen → is_headed kept.current ≡ true
    → IfOk result (λ counts. counts ≡ counts_of kept.current.rows)
    → IfOk result (λ counts. (c : Collection) × Holds seen c × (counts ≡ counts_of c.rows))
counted kept seen result same held is =
    subst (λ (it : WithMark Holding). IfOk result (λ counts. (c : Collection) × Holds it c × (counts ≡ counts_of c.rows))) same
    (counted_there kept result held is)

pub shown : {E : Type 0} (kept seen : WithMark Holding) (what : Shown) (result : Result (List (List ℕ)) E) → kept ≡ seen
    → IfOk result (λ lines. (c : Collection) × Holds kept c × (lines ≡ shown_lines what c))
    → IfOk result (λ lines. (c : Collection) × Holds seen c × (lines ≡ shown_lines what c))
shown kept seen what result same is =
    subst (λ (it : WithMark Holding). IfOk result (λ lines. (c : Collection) × Holds it c × (lines ≡ shown_lines what c))) same is
