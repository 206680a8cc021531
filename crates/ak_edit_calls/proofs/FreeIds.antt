-- The first free names: each is one, and the rows that are made with them one after another are told.
use Rattle.std.specs.Prelude.{◌≡◌, ◌<ℤ◌, ℤ, Bool, true, false, ◌||◌, int_lt, is_some, List, [], ◌∷◌, length, None}
use Rattle.std.proofs.Common.{arith, refl, sym, ap, subst, inl, inr, ◌∙◌}
use Rattle.std.proofs.lemmas.Int.{ints}
use Rattle.ak_base.specs.Names.{next_name}
use Rattle.ak_base.specs.declared.names.Name.{Name}
use Rattle.ak_base.specs.declared.names.Table.{Table}
use Rattle.ak_keep.specs.FreeNames.{IsFirstFree, IsFree, is_used}
use Rattle.ak_keep.specs.Graves.{RowsByName, is_dead}
use Rattle.ak_merge.proofs.EditFacts.{false_true, true_false}
use Rattle.ak_merge.specs.Holdings.{name_in}
use Rattle.ak_edit_calls.specs.NewNames.{AreMadeOf, IsNewName, LacksIds, first_name}

-- ---- one free name
-- a free name is before no other that is the first
not_before : (used : Name → Bool) (first a b : Name) → IsFree used first a → IsFree used first b → a.id <ℤ b.id → ⊥
not_before used first a b one other less =
    let taken : used (name_in first.table a.id) ≡ true = other.least a.id one.from less in
    let same : a ≡ name_in first.table a.id = ap (λ (t : Table). name_in t a.id) one.table in
    false_true (sym one.free ∙ ap used same ∙ taken)

same_id : (a b : ℤ) → (a <ℤ b → ⊥) → (b <ℤ a → ⊥) → a ≡ b
same_id a b one other =
    elim (int_lt a b) as (λ (v : Bool). int_lt a b ≡ v → a ≡ b) [
      | true ↦ λ less. absurd (one (grind (arith, ints, less)))
      | false ↦ λ reaches. elim (int_lt b a) as (λ (v : Bool). int_lt b a ≡ v → a ≡ b) [
        | true ↦ λ less. absurd (other (grind (arith, ints, less)))
        | false ↦ λ back. grind (arith, ints, reaches, back)
      ] refl
    ] refl

-- the first free name is one
pub free_once : (used : Name → Bool) (first a b : Name) → IsFree used first a → IsFree used first b → a ≡ b
free_once used first a b one other =
    let id : a.id ≡ b.id = same_id a.id b.id (not_before used first a b one other) (not_before used first b a other one) in
    ap (λ (t : Table). name_in t a.id) (one.table ∙ sym other.table) ∙ ap (name_in b.table) id

-- if one is free, not all are taken
pub none_free : (used : Name → Bool) (first a : Name) → IsFree used first a → IsFirstFree used first None → ⊥
none_free used first a free none =
    let taken : used (name_in first.table a.id) ≡ true = none a.id free.from free.within in
    let same : a ≡ name_in first.table a.id = ap (λ (t : Table). name_in t a.id) free.table in
    false_true (sym free.free ∙ ap used same ∙ taken)

-- a table has one new name at most
pub one_new : (moment : ℤ) (table : Table) (held : RowsByName) (one other : ℤ) → IsNewName moment table held (name_in table one) → IsNewName moment table held (name_in table other) → one ≡ other
one_new moment table held one other is also =
    ap (λ (n : Name). n.id) (free_once (is_used held) (first_name table moment) (name_in table one) (name_in table other) is also)

second_false : (a b : Bool) → (a || b) ≡ false → b ≡ false
second_false true b is = true_false is
second_false false b is = is

-- a free name is not dead
pub not_dead : (held : RowsByName) (first name : Name) (table : Table) → first.table ≡ table → IsFree (is_used held) first name → is_dead held (name_in table name.id) ≡ false
not_dead held first name table of free =
    let there : Name = name_in table name.id in
    let same : name ≡ there = ap (λ (t : Table). name_in t name.id) (free.table ∙ of) in
    second_false (is_some (held there)) (is_dead held there) (ap (is_used held) (sym same) ∙ free.free)

-- ---- the rows
-- a relation that tells one row of a thing and an id
abbrev pub IsTold : {A R : Type 0} → (A → ℤ → R → Type 0) → Type 0
IsTold {A} {R} IsMade = (x : A) (id : ℤ) (a b : R) → IsMade x id a → IsMade x id b → a ≡ b

pub made_once : {A R : Type 0} (used : Name → Bool) (IsMade : A → ℤ → R → Type 0) (first : Name) (xs : List A) (made other : List R) → IsTold IsMade → AreMadeOf used IsMade first xs made
    → AreMadeOf used IsMade first xs other → made ≡ other
made_once used IsMade first [] made other told one two = one ∙ sym two
made_once {A} {R} used IsMade first (x ∷ xs) made other told one two =
    let name : one.0 ≡ two.0 = free_once used first one.0 two.0 one.1 two.1 in
    let row : one.2 ≡ two.2 = told x two.0.id one.2 two.2 (subst (λ (n : Name). IsMade x n.id one.2) name one.3) two.3 in
    let there : AreMadeOf used IsMade (next_name one.0) xs two.4 = subst (λ (n : Name). AreMadeOf used IsMade (next_name n) xs two.4) (sym name) two.6 in
    let rest : one.4 ≡ two.4 = made_once used IsMade (next_name one.0) xs one.4 two.4 told one.6 there in
    one.5 ∙ ap (λ (r : R). r ∷ one.4) row ∙ ap (λ (rs : List R). two.2 ∷ rs) rest ∙ sym two.5

-- there are ids for them
pub lacks_none : {A R : Type 0} (used : Name → Bool) (IsMade : A → ℤ → R → Type 0) (first : Name) (xs : List A) (made : List R) → AreMadeOf used IsMade first xs made
    → LacksIds used first (length xs) → ⊥
lacks_none used IsMade first [] made are lacks = lacks
lacks_none used IsMade first (x ∷ xs) made are lacks =
    elim lacks [
      | inl none ↦ none_free used first are.0 are.1 none
      | inr more ↦
          let name : more.0 ≡ are.0 = free_once used first more.0 are.0 more.1 are.1 in
          lacks_none used IsMade (next_name are.0) xs are.4 are.6 (subst (λ (n : Name). LacksIds used (next_name n) (length xs)) name more.2)
    ]
