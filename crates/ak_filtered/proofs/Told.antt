-- What is always true of what a keeper may tell.
use Rattle.std.specs.Prelude.{◌≡◌, true, false, Option, Some, None, IfOk, IfSome, Result, Ok, Err, is_some}
use Rattle.std.proofs.Common.{refl, subst}
use Rattle.std.specs.Option.{option_map}
use Rattle.ak_edit_calls.proofs.Telling.{where_always, where_held-both}
use Rattle.ak_keep.specs.Collections.{Collection, Holding, collection_of}
use Rattle.ak_keep.specs.Keepers.{Keeping, WhereHeld}
use Rattle.ak_keep.specs.Marks as marks
use Rattle.ak_keep.specs.Marks.{WithMark}
use Rattle.ak_merge.proofs.EditFacts.{false_true}

always : (o : Option Collection) (P : Collection → Type 0) → ((c : Collection) → P c) → IfSome o P
always None P is = tt
always (Some c) P is = is c

-- what is true of every collection
pub held_always : (k : Keeping) (P : Collection → Type 0) → ((c : Collection) → P c) → WhereHeld k P
held_always k P is = where_always k (λ h. IfSome (collection_of h) P) (λ h. always (collection_of h) P is)

-- both of two things
pub held_pair : (k : Keeping) (P Q : Collection → Type 0) → WhereHeld k P → WhereHeld k Q → WhereHeld k (λ c. P c × Q c)
held_pair k P Q = where_held-both k P Q (λ c. P c × Q c) (λ c one other. (one, other))

-- ---- what is held after a call
told_now : (told : Option (WithMark Holding)) (d : Collection) (P : Collection → Type 0)
    → IfSome (option_map (marks.changed (λ _. record { rows = d.rows; head = Some d.head })) told) (λ w. IfSome (collection_of w.current) P) → is_some told ≡ true → P d
told_now None d P is some = absurd (false_true some)
told_now (Some w) d P is some = is

-- what a collection leaves under a call is what is held then
module _ (mid : Keeping) (R S B : Collection → Type 0) (after : (c : Collection) → R c → Collection) where
  pub through : (told : Option (WithMark Holding)) → ((c : Collection) (r : R c) → mid.told ≡ option_map (marks.changed (λ _. record { rows = (after c r).rows; head = Some (after c r).head })) told)
      → ((c : Collection) (r : R c) → B (after c r) → S c) → IfSome told (λ w. IfSome (collection_of w.current) R) → WhereHeld mid B → IfSome told (λ w. IfSome (collection_of w.current) S)
  through None leaves step is held = tt
  through (Some w) leaves step is held =
      some-both-here (collection_of w.current) R S is (λ c r. step c r
      (told_now (Some w) (after c r) B (subst (λ (t : Option (WithMark Holding)). IfSome t (λ v. IfSome (collection_of v.current) B)) (leaves c r) held) refl))
    where
      some-both-here : (o : Option Collection) (P Q : Collection → Type 0) → IfSome o P → ((c : Collection) → P c → Q c) → IfSome o Q
      some-both-here None P Q is step = tt
      some-both-here (Some c) P Q is step = step c is

-- what follows from what an answer says
pub ok_map : {T E : Type 0} (result : Result T E) (P Q : T → Type 0) → ((t : T) → P t → Q t) → IfOk result P → IfOk result Q
ok_map (Ok t) P Q step is = step t is
ok_map (Err e) P Q step is = tt
