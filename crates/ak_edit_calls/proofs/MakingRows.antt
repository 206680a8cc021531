-- Rows made one by one of the things of a list, each with the first free id after the one before, while what is held is told.
use Rattle.std.specs.Prelude.{◌≡◌, ℕ, ◌+◌, ◌<◌, ◌≤◌, ℤ, Bool, List, [], ◌∷◌, ◌++◌, length, get_or, drop, None, Ok, Err}
use Rattle.std.proofs.Common.{refl, sym, ap, subst, inl, inr, ◌∙◌, append_assoc, append-nil}
use Rattle.std.proofs.lemmas.List.{at_drop_more, at_drop_all}
use Rattle.std.specs.FinMap.{get}
use Rattle.ak_base.specs.Names.{next_name}
use Rattle.ak_base.specs.declared.names.Name.{Name}
use Rattle.ak_edit.specs.Refusals.{AnswersBy}
use Rattle.ak_edit.specs.declared.desk_faults.DeskFault.{DeskFault}
use Rattle.ak_edit_calls.proofs.FreeIds.{lacks_none}
use Rattle.ak_edit_calls.proofs.Telling.{where_always, where_told-both}
use Rattle.ak_edit_calls.specs.NewNames.{AreMadeOf, IsFreeIn, IsNoneFreeFrom, LacksIds, RefusesIdsFrom}
use Rattle.ak_keep.proofs.Told.{where_told-map}
use Rattle.ak_keep.specs.Collections.{Holding}
use Rattle.ak_keep.specs.FreeNames.{IsFirstFree, IsFree, is_used}
use Rattle.ak_keep.specs.Keepers.{Keeping, WhereTold}

-- what is made of the other things from this name on goes on with these rows to what is made of all, and if ids lack for them, they
-- lack for all
pub record MakesMore {A R : Type 0} (used : Name → Bool) (IsMade : A → ℤ → R → Type 0) (start : Name) (all others : List A) (first : Name) (rows : List R) : Type 0 where
  pub made : (more : List R) → AreMadeOf used IsMade first others more → AreMadeOf used IsMade start all (rows ++ more)
  pub lacks : LacksIds used first (length others) → LacksIds used start (length all)

-- the same in what is held
abbrev pub MakesMoreIn : {A R : Type 0} → (A → ℤ → R → Type 0) → Name → List A → List A → Name → List R → Holding → Type 0
MakesMoreIn IsMade start all others first rows h = MakesMore (is_used (get h.rows)) IsMade start all others first rows

-- rows were made of all, in what is held
abbrev pub AreMadeIn : {A R : Type 0} → (A → ℤ → R → Type 0) → Name → List A → List R → Holding → Type 0
AreMadeIn IsMade start all rows h = AreMadeOf (is_used (get h.rows)) IsMade start all rows

-- at first
pub makes_all : {A R : Type 0} (k : Keeping) (IsMade : A → ℤ → R → Type 0) (start : Name) (all : List A) → WhereTold k (MakesMoreIn IsMade start all all start [])
makes_all k IsMade start all = where_always k (MakesMoreIn IsMade start all all start []) (λ h. record { made = λ more are. are; lacks = λ lacks. lacks })

one_more : {A R : Type 0} (used : Name → Bool) (IsMade : A → ℤ → R → Type 0) (start : Name) (all : List A) (i : ℕ) (x default : A) (first name : Name) (rows : List R) (row : R)
    → i < length all → x ≡ get_or all i default → IsMade x name.id row → IsFree used first name
    → MakesMore used IsMade start all (drop i all) first rows → MakesMore used IsMade start all (drop (i + 1) all) (next_name name) (rows ++ row ∷ [])
one_more {A} {R} used IsMade start all i x default first name rows row within item is free so_far =
    let there : drop i all ≡ x ∷ drop (i + 1) all =
    at_drop_more (λ (xs : List A). xs) all i default within ∙ ap (λ (y : A). y ∷ drop (i + 1) all) (sym item) in
    record {
      made = λ more are.
          let with_one : AreMadeOf used IsMade first (x ∷ drop (i + 1) all) (row ∷ more) = (name, free, row, is, more, refl, are) in
          subst (AreMadeOf used IsMade start all) (sym (append_assoc rows (row ∷ []) more))
          (so_far.made (row ∷ more) (subst (λ (xs : List A). AreMadeOf used IsMade first xs (row ∷ more)) (sym there) with_one));
      lacks = λ lacks. so_far.lacks (subst (λ (xs : List A). LacksIds used first (length xs)) (sym there) (inr (name, free, lacks)));
    }

-- one row more, of the thing in this place
pub makes_one : {A R : Type 0} (k : Keeping) (IsMade : A → ℤ → R → Type 0) (start : Name) (all : List A) (i : ℕ) (x default : A) (first name : Name) (rows : List R) (row : R)
    → i < length all → x ≡ get_or all i default → IsMade x name.id row → WhereTold k (IsFreeIn first name)
    → WhereTold k (MakesMoreIn IsMade start all (drop i all) first rows) → WhereTold k (MakesMoreIn IsMade start all (drop (i + 1) all) (next_name name) (rows ++ row ∷ []))
makes_one k IsMade start all i x default first name rows row within item is =
    where_told-both k (IsFreeIn first name) (MakesMoreIn IsMade start all (drop i all) first rows) (MakesMoreIn IsMade start all (drop (i + 1) all) (next_name name) (rows ++ row ∷ []))
    (λ h free so_far. one_more (is_used (get h.rows)) IsMade start all i x default first name rows row within item is free so_far)

-- at the end
pub made_all : {A R : Type 0} (k : Keeping) (IsMade : A → ℤ → R → Type 0) (start : Name) (all : List A) (i : ℕ) (first : Name) (rows : List R) → length all ≤ i
    → WhereTold k (MakesMoreIn IsMade start all (drop i all) first rows) → WhereTold k (AreMadeIn IsMade start all rows)
made_all {A} {R} k IsMade start all i first rows past =
    where_told-map k (MakesMoreIn IsMade start all (drop i all) first rows) (AreMadeIn IsMade start all rows)
    (λ h so_far. subst (AreMadeOf (is_used (get h.rows)) IsMade start all) (append-nil rows)
    (so_far.made [] (subst (λ (xs : List A). AreMadeOf (is_used (get h.rows)) IsMade first xs []) (sym (at_drop_all (λ (xs : List A). xs) all i past)) refl)))

-- what was made is not refused
pub made_answers : {A R T : Type 0} (k : Keeping) (IsMade : A → ℤ → R → Type 0) (start : Name) (all : List A) (rows : List R) (value : T) → WhereTold k (AreMadeIn IsMade start all rows)
    → WhereTold k (λ h. AnswersBy {T = T} (RefusesIdsFrom start (length all) (get h.rows)) (Ok value))
made_answers {A} {R} {T} k IsMade start all rows value =
    where_told-map k (AreMadeIn IsMade start all rows) (λ h. AnswersBy {T = T} (RefusesIdsFrom start (length all) (get h.rows)) (Ok value))
    (λ h are. record { accepted = λ fault refuses. lacks_none (is_used (get h.rows)) IsMade start all rows are refuses.0; refused = tt })

one_lack : {A R : Type 0} (used : Name → Bool) (IsMade : A → ℤ → R → Type 0) (start : Name) (all : List A) (i : ℕ) (default : A) (first : Name) (rows : List R) → i < length all
    → IsFirstFree used first None → MakesMore used IsMade start all (drop i all) first rows → LacksIds used start (length all)
one_lack {A} used IsMade start all i default first rows within none so_far =
    so_far.lacks (subst (λ (xs : List A). LacksIds used first (length xs)) (sym (at_drop_more (λ (xs : List A). xs) all i default within)) (inl none))

-- an id lacks, or the fault comes from outside
pub one_lacks : {A R : Type 0} (T : Type 0) (k : Keeping) (IsMade : A → ℤ → R → Type 0) (start : Name) (all : List A) (i : ℕ) (default : A) (first : Name) (rows : List R) (fault : DeskFault)
    → i < length all → IsNoneFreeFrom k first fault → WhereTold k (MakesMoreIn IsMade start all (drop i all) first rows)
    → WhereTold k (λ h. AnswersBy {T = T} (RefusesIdsFrom start (length all) (get h.rows)) (Err fault))
one_lacks T k IsMade start all i default first rows fault within none so_far =
    elim none [
      | inl outside ↦ where_always k (λ h. AnswersBy {T = T} (RefusesIdsFrom start (length all) (get h.rows)) (Err fault)) (λ h. record { accepted = tt; refused = inl outside })
      | inr is ↦
          where_told-both k (λ h. IsFirstFree (is_used (get h.rows)) first None) (MakesMoreIn IsMade start all (drop i all) first rows)
          (λ h. AnswersBy {T = T} (RefusesIdsFrom start (length all) (get h.rows)) (Err fault))
          (λ h lack more. record { accepted = tt; refused = inr (one_lack (is_used (get h.rows)) IsMade start all i default first rows within lack more, is.1) }) is.0 so_far
    ]
