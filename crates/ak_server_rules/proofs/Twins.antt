-- Two of one name in a list, found by a set of the names so far.
use Rattle.std.specs.Prelude.{◌≡◌, ℕ, ◌+◌, ◌<◌, ◌||◌, Bool, true, false, cond, List, [], ◌∷◌, length, drop, get_or}
use Rattle.std.specs.BTreeMap.{is_at}
use Rattle.std.specs.List.{list_any}
use Rattle.std.specs.declared.cmp.Ordering.{Ordering}
use Rattle.std.proofs.Common.{refl, sym, ap, ◌∙◌}
use Rattle.std.proofs.lemmas.List.{drop_more}
use Rattle.ak_session.specs.Refusals.{has_twins}

or_with : (p q a b : Bool) → (cond q true p || (a || b)) ≡ ((p || a) || (q || b))
or_with true true a b = refl
or_with true false a b = refl
or_with false true true b = refl
or_with false true false b = refl
or_with false false a b = refl

any_alike : {X : Type 0} (p q : X → Bool) → ((y : X) → p y ≡ q y) → (ys : List X) → list_any p ys ≡ list_any q ys
any_alike p q so [] = refl
any_alike p q so (y ∷ ys) = ap (λ b. b || list_any p ys) (so y) ∙ ap (λ b. q y || b) (any_alike p q so ys)

-- two tests that say the same find the same twins
pub has_twins_alike : {X : Type 0} (same like : X → X → Bool) → ((x y : X) → same x y ≡ like x y) → (xs : List X) → has_twins same xs ≡ has_twins like xs
has_twins_alike same like so [] = refl
has_twins_alike {X} same like so (x ∷ xs) =
    ap (λ b. b || has_twins same xs) (any_alike (same x) (like x) (so x) xs) ∙ ap (λ b. list_any (like x) xs || b) (has_twins_alike same like so xs)

module _ {X N K : Type 0} (cmp : N → N → Ordering) (key_name : K → N) (name : X → N) where
  -- whether a name is one of these keys'
  abbrev pub is_key : List K → N → Bool
  is_key keys n = list_any (λ (key : K). is_at (cmp n) (key_name key)) keys

  -- whether an entry's name is one of these keys'
  abbrev pub among : List K → X → Bool
  among names x = is_key names (name x)

  -- whether one of these has one of the names, or two of them have one name
  abbrev pub meets : List K → List X → Bool
  meets names rest = list_any (among names) rest || has_twins (λ (x y : X). is_at (cmp (name x)) (name y)) rest

  any_or : (old new : List K) (x : X) → ((y : X) → among new y ≡ cond (is_at (cmp (name x)) (name y)) true (among old y))
      → (ys : List X) → list_any (among new) ys ≡ (list_any (among old) ys || list_any (λ (y : X). is_at (cmp (name x)) (name y)) ys)
  any_or old new x has [] = refl
  any_or old new x has (y ∷ ys) =
      ap (λ b. b || list_any (among new) ys) (has y)
      ∙ ap (λ b. cond (is_at (cmp (name x)) (name y)) true (among old y) || b) (any_or old new x has ys)
      ∙ or_with (among old y) (is_at (cmp (name x)) (name y)) (list_any (among old) ys) (list_any (λ (y : X). is_at (cmp (name x)) (name y)) ys)

  or_assoc : (a b c : Bool) → ((a || b) || c) ≡ (a || (b || c))
  or_assoc true b c = refl
  or_assoc false b c = refl

  -- a name that is new is added to the names
  pub meets_more : (old new : List K) (x : X) (more : List X) → among old x ≡ false
      → ((y : X) → among new y ≡ cond (is_at (cmp (name x)) (name y)) true (among old y))
      → meets new more ≡ meets old (x ∷ more)
  meets_more old new x more fresh has =
      let twins : Bool = has_twins (λ (x y : X). is_at (cmp (name x)) (name y)) more in
      let one : Bool = list_any (λ (y : X). is_at (cmp (name x)) (name y)) more in
      ap (λ b. b || twins) (any_or old new x has more)
      ∙ or_assoc (list_any (among old) more) one twins
      ∙ ap (λ b. (b || list_any (among old) more) || (one || twins)) (sym fresh)

  -- a name that is not new is that of a twin
  pub meets_now : (old : List K) (x : X) (more : List X) → among old x ≡ true → meets old (x ∷ more) ≡ true
  meets_now old x more is = ap (λ b. (b || list_any (among old) more) || (list_any (λ (y : X). is_at (cmp (name x)) (name y)) more || has_twins (λ (x y : X). is_at (cmp (name x)) (name y)) more)) is

  none_among : (xs : List X) → list_any (among []) xs ≡ false
  none_among [] = refl
  none_among (x ∷ xs) = none_among xs

  -- without a name so far it is all about the rows
  pub meets_first : (names : List K) (xs : List X) → names ≡ [] → meets names xs ≡ has_twins (λ (x y : X). is_at (cmp (name x)) (name y)) xs
  meets_first names xs empty =
      ap (λ ns. meets ns xs) empty ∙ ap (λ b. b || has_twins (λ (x y : X). is_at (cmp (name x)) (name y)) xs) (none_among xs)

  -- the rest of the rows begins with the next one
  rest_of : (old : List K) (xs : List X) (i : ℕ) (x : X) (all : Bool) → i < length xs → x ≡ get_or xs i x
      → meets old (drop i xs) ≡ all → meets old (x ∷ drop (i + 1) xs) ≡ all
  rest_of old xs i x all l is so =
      sym (ap (meets old) (drop_more xs i x l ∙ ap (λ (y : X). y ∷ drop (i + 1) xs) (sym is))) ∙ so

  -- the next row has a new name, which is added
  pub meets_next : (old new : List K) (xs : List X) (i : ℕ) (x : X) (n : N) (all : Bool) → i < length xs → x ≡ get_or xs i x → n ≡ name x
      → meets old (drop i xs) ≡ all → is_key old n ≡ false
      → ((other : N) → is_key new other ≡ cond (is_at (cmp n) other) true (is_key old other))
      → meets new (drop (i + 1) xs) ≡ all
  meets_next old new xs i x n all l is named so fresh has =
      meets_more old new x (drop (i + 1) xs) (ap (is_key old) (sym named) ∙ fresh)
      (λ y. has (name y) ∙ ap (λ m. cond (is_at (cmp m) (name y)) true (among old y)) named)
      ∙ rest_of old xs i x all l is so

  -- the next row has a name that came before
  pub meets_there : (old : List K) (xs : List X) (i : ℕ) (x : X) (n : N) (all : Bool) → i < length xs → x ≡ get_or xs i x → n ≡ name x
      → meets old (drop i xs) ≡ all → is_key old n ≡ true → true ≡ all
  meets_there old xs i x n all l is named so there =
      sym (meets_now old x (drop (i + 1) xs) (ap (is_key old) (sym named) ∙ there)) ∙ rest_of old xs i x all l is so
