-- Rows none of which has one of some names, by one walk over both.
use Rattle.std.proofs.Common.{◌≡◌, ◌≢◌, Bool, true, false, cond, List, [], ◌∷◌, map, length, Option, Some, None, refl, sym, ap, ◌∙◌}
use Rattle.std.specs.Prelude.{is_some}
use Rattle.std.specs.Bool.{Decides}
use Rattle.std.specs.BTreeMap.{is_at}
use Rattle.std.specs.List.{AllByRecursion}
use Rattle.std.specs.List.Sorted.{IsStrictlySortedBy}
use Rattle.std.specs.Ordering.{is_eq, ordering_reverse}
use Rattle.std.specs.declared.cmp.Ordering.{Ordering}
use Rattle.std.specs.declared.cmp.Ordering.TheVariants.{Less, Equal, Greater}
use Rattle.ak_base.proofs.NameOrder.{names_exact}
use Rattle.ak_base.specs.Names.{name_cmp, names_total}
use Rattle.ak_base.specs.Rows.{name_of}
use Rattle.ak_base.specs.declared.names.Name.{Name}
use Rattle.ak_base.specs.declared.rows.Row.{Row}
use Rattle.ak_journal_rows.proofs.Folds.{none_behind, tied}
use Rattle.ak_journal_rows.specs.Changes.{AreApart, row_put}
use Rattle.ak_journal_rows.specs.Listed.{IsFrom}

less_greater : Less ≡ Greater → ⊥
less_greater is = cc

true_false : true ≡ false → ⊥
true_false is = cc

-- a name behind another is not before it
not_before : (name other : Name) → name_cmp name other ≡ Less → name_cmp other name ≢ Less
not_before name other is less = less_greater (sym less ∙ (names_total.antisymm other name ∙ ap ordering_reverse is))

-- nor is it before itself
not_itself : (name : Name) → name_cmp name name ≢ Less
not_itself name less = not_before name name less less

-- a row before a name is none of the names from that one on
skipped : (row : Row) (rows : List Row) (name other : Name) → name_cmp (name_of row) name ≡ Less → name_cmp other name ≢ Less → row_put (row ∷ rows) other ≡ row_put rows other
skipped row rows name other less from = either (is_at (name_cmp other) (name_of row)) refl
  where
    either : (here : Bool) → is_at (name_cmp other) (name_of row) ≡ here → cond here (Some row) (row_put rows other) ≡ row_put rows other
    either true is = absurd (from (ap (λ (n : Name). name_cmp n name) (names_exact other (name_of row) (tied (name_cmp other (name_of row)) is)) ∙ less))
    either false is = refl

pub rows_skipped : (row : Row) (behind all : List Row) (name : Name) → name_cmp (name_of row) name ≡ Less
    → ((other : Name) → name_cmp other name ≢ Less → row_put (row ∷ behind) other ≡ row_put all other)
    → (other : Name) → name_cmp other name ≢ Less → row_put behind other ≡ row_put all other
rows_skipped row behind all name less same other from = sym (skipped row behind name other less from) ∙ same other from

pub behind_ascend : (row : Row) (behind : List Row) → IsStrictlySortedBy name_cmp (map name_of (row ∷ behind)) → IsStrictlySortedBy name_cmp (map name_of behind)
unfolding IsStrictlySortedBy
behind_ascend row behind s = s.1

pub from_none : (name : Name) (rows : List Row) → length rows ≡ 0 → IsFrom name rows
from_none name [] is = tt
from_none name (row ∷ rows) is = cc

-- names behind one that is before them
all_behind : (name first : Name) (names : List Name) → name_cmp name first ≡ Less → AllByRecursion (λ y. name_cmp first y ≡ Less) names → AllByRecursion (λ y. name_cmp name y ≡ Less) names
all_behind name first [] less h = tt
all_behind name first (next ∷ names) less h = (names_total.trans name first next less h.0, all_behind name first names less h.1)

-- the first row from a name on has the name, or none has
pub first_has : (name : Name) (row : Row) (rows : List Row) → IsStrictlySortedBy name_cmp (map name_of (row ∷ rows)) → IsFrom name (row ∷ rows)
    → is_at (name_cmp name) (name_of row) ≡ is_some (row_put (row ∷ rows) name)
unfolding IsStrictlySortedBy
first_has name row rows s from = either (is_at (name_cmp name) (name_of row)) refl
  where
    before : (o : Ordering) → name_cmp name (name_of row) ≡ o → is_eq o ≡ false → name_cmp name (name_of row) ≡ Less
    before Less is not_equal = is
    before Equal is not_equal = cc
    before Greater is not_equal = absurd (from (names_total.antisymm (name_of row) name ∙ ap ordering_reverse is))

    either : (here : Bool) → is_at (name_cmp name) (name_of row) ≡ here → here ≡ is_some (cond here (Some row) (row_put rows name))
    either true is = refl
    either false is =
        sym (ap is_some (none_behind name rows (all_behind name (name_of row) (map name_of rows) (before (name_cmp name (name_of row)) refl is) s.0)))

-- ---- the walk
-- what is left decides
abbrev pub Decide : List Row → List Name → List Row → List Name → Type 0
Decide rows names put cut = (AreApart rows names → AreApart put cut) × (AreApart put cut → AreApart rows names)

-- of the names from this one on both have the same rows
abbrev pub SameFrom : Name → List Row → List Row → Type 0
SameFrom name rows all = (other : Name) → name_cmp other name ≢ Less → row_put rows other ≡ row_put all other

apart_in : (name : Name) (rows all : List Row) (names : List Name) → AllByRecursion (λ y. name_cmp name y ≡ Less) names → SameFrom name rows all → AreApart rows names → AreApart all names
apart_in name rows all [] h same apart = tt
apart_in name rows all (next ∷ names) h same apart = (sym (same next (not_before name next h.0)) ∙ apart.0, apart_in name rows all names h.1 same apart.1)

apart_out : (name : Name) (rows all : List Row) (names : List Name) → AllByRecursion (λ y. name_cmp name y ≡ Less) names → SameFrom name rows all → AreApart all names → AreApart rows names
apart_out name rows all [] h same apart = tt
apart_out name rows all (next ∷ names) h same apart = (same next (not_before name next h.0) ∙ apart.0, apart_out name rows all names h.1 same apart.1)

none_of : (o : Option Row) → is_some o ≡ false → o ≡ None
none_of None is = refl
none_of (Some row) is = absurd (true_false is)

some_none : (o : Option Row) → is_some o ≡ true → o ≡ None → ⊥
some_none None is none = true_false (sym is)
some_none (Some row) is none = cc

-- a name that no row has leaves it to those behind it
pub left_apart : (name : Name) (behind : List Name) (rows from : List Row) (put : List Row) (cut : List Name) → IsStrictlySortedBy name_cmp (name ∷ behind) → SameFrom name from rows
    → is_some (row_put from name) ≡ false → Decide rows (name ∷ behind) put cut → Decide from behind put cut
unfolding IsStrictlySortedBy
left_apart name behind rows from put cut s same none left = (
  λ apart. left.0 (sym (same name (not_itself name)) ∙ none_of (row_put from name) none, apart_in name from rows behind s.0 same apart),
  λ apart. apart_out name from rows behind s.0 same (left.1 apart).1,
)

-- one that a row has refuses all
pub found_apart : (name : Name) (behind : List Name) (rows from : List Row) (put : List Row) (cut : List Name) → SameFrom name from rows
    → is_some (row_put from name) ≡ true → Decide rows (name ∷ behind) put cut → Decides false (AreApart put cut)
found_apart name behind rows from put cut same found left =
    (λ h. absurd (true_false (sym h)), λ apart. absurd (some_none (row_put from name) found (same name (not_itself name) ∙ (left.1 apart).0)))

pub behind_names : (name : Name) (behind : List Name) → IsStrictlySortedBy name_cmp (name ∷ behind) → IsStrictlySortedBy name_cmp behind
unfolding IsStrictlySortedBy
behind_names name behind s = s.1

pub all_apart : (rows : List Row) (names : List Name) → length names ≡ 0 → AreApart rows names
all_apart rows [] is = tt
all_apart rows (name ∷ names) is = cc
