-- A walk over two collections finds no name that is in doubt exactly where they are apart.
use Rattle.ak_base.specs.Rows.{IsChecked, name_of, stamp_of}
use Rattle.ak_base.specs.Tables.{all_tables}
use Rattle.std.specs.Prelude.{◌≡◌, ◌↔◌, ◌==◌, ℕ, suc, ◌<◌, ◌≤◌, pos, Bool, true, false, T, not, ◌&&◌, IsTrue, ⊤, int_lt, List, [], ◌∷◌, Option, Some, None}
use Rattle.ak_base.proofs.Optional.{both_none, none_mapped}
use Rattle.std.proofs.Common.{refl, sym, ap, subst, ◌∙◌, inl, inr, arith}
use Rattle.std.proofs.Math.Nat.{eq-or-lt_of_le}
use Rattle.std.specs.Cmp.{ranked, signed_Decides, unsigned_Decides, first_so, second_so}
use Rattle.std.specs.FinMap.{get}
use Rattle.std.specs.List.{AllByRecursion}
use Rattle.std.specs.Option.{option_map, option_or}
use Rattle.std.specs.Ordering.{int_cmp, int_eq, is_lt, nat_cmp, ordering_then}
use Rattle.std.specs.declared.cmp.Ordering.TheVariants.{Less, Equal, Greater}
use Rattle.ak_base.specs.Contents.{same_content}
use Rattle.ak_base.specs.Names.{name_cmp, table_place}
use Rattle.ak_base.specs.declared.names.Name.{Name}
use Rattle.ak_base.specs.declared.names.Table.{Table}
use Rattle.ak_base.specs.declared.names.Table.TheVariants as tables
use Rattle.ak_base.specs.declared.rows.Row.{Row}
use Rattle.ak_keep.specs.Collections.{Rows, is_past}
use Rattle.ak_merge.proofs.Finding.{IsFirstIn, first_in_table, id_over_zero, none_in_table, not_both, not_none, table_has_none}
use Rattle.ak_keep.specs.Graves.{RowsByName}
use Rattle.ak_merge.specs.Holdings.{AreNamed, AreChecked}
use Rattle.ak_merge.specs.Joins.{AreApart}
use Rattle.ak_merge.specs.Conflicts.{ConflictAt, IsLeastConflict, first_conflict, first_conflict_in, first_conflict_of, conflicts, has_conflict}

-- ---- over the tables
none_of_each : (a b : Rows) (among : List Table) → first_conflict_of among a b ≡ None → AllByRecursion (λ (table : Table). first_conflict_in table a b ≡ None) among
none_of_each a b [] none = tt
none_of_each a b (table ∷ more) none = let parts = both_none _ _ none in (parts.0, none_of_each a b more parts.1)

none_of_all : (a b : Rows) (among : List Table) → ((table : Table) → first_conflict_in table a b ≡ None) → first_conflict_of among a b ≡ None
none_of_all a b [] each = refl
none_of_all a b (table ∷ more) each = ap (λ (o : Option Name). option_or o (first_conflict_of more a b)) (each table) ∙ none_of_all a b more each

of_table : (P : Table → Type 0) → AllByRecursion P all_tables → (table : Table) → P table
of_table P all tables.Note = all.0
of_table P all tables.Card = all.1.0
of_table P all tables.Review = all.1.1.0
of_table P all tables.NoteType = all.1.1.1.0
of_table P all tables.Deck = all.1.1.1.1.0
of_table P all tables.Options = all.1.1.1.1.1.0
of_table P all tables.NoteGrave = all.1.1.1.1.1.1.0
of_table P all tables.CardGrave = all.1.1.1.1.1.1.1.0
of_table P all tables.DeckGrave = all.1.1.1.1.1.1.1.1.0

-- ---- one row
-- a row that stands is past the start of its own table
in_table : (row : Row) (name : Name) → name_of row ≡ name → IsChecked row → is_past name.table (pos 0) name ≡ true
in_table row name is checked =
    ap (λ b. b && int_lt (pos 0) name.id) ((unsigned_Decides (table_place name.table) (table_place name.table)).1 refl)
    ∙ ap (λ (n : Name). int_lt (pos 0) n.id) (sym is) ∙ id_over_zero row checked

agree : (x y : Row) → conflicts x (Some y) ≡ false → stamp_of x ≡ stamp_of y → IsTrue (same_content x y)
agree x y clear same =
    let tied : int_eq (stamp_of x) (stamp_of y) ≡ true = (signed_Decides (stamp_of x) (stamp_of y)).1 same in
    let rest : not (same_content x y) ≡ false = ap (λ b. b && not (same_content x y)) (sym tied) ∙ clear in
    elim (same_content x y) as (λ b. not b ≡ false → b ≡ true) [ true ↦ λ _. refl | false ↦ λ is. sym is ] rest

clear_row : (x : Row) (held : Option Row) → ((y : Row) → held ≡ Some y → stamp_of x ≡ stamp_of y → IsTrue (same_content x y)) → conflicts x held ≡ false
clear_row x None agree = refl
clear_row x (Some y) agree =
    elim (int_eq (stamp_of x) (stamp_of y)) as (λ b. int_eq (stamp_of x) (stamp_of y) ≡ b → (b && not (same_content x y)) ≡ false) [
      | true ↦ λ tied. ap not (agree y refl ((signed_Decides (stamp_of x) (stamp_of y)).0 tied))
      | false ↦ λ _. refl
    ] refl

-- ---- the whole walk
not_torn : (a b : Rows) (name : Name) (x y : Row) → AreNamed (get a) → AreChecked (get a) → first_conflict a b ≡ None → get a name ≡ Some x → get b name ≡ Some y → conflicts x (Some y) ≡ false
not_torn a b name x y are_named checked none has held =
    let table_none = of_table (λ (table : Table). first_conflict_in table a b ≡ None) (none_of_each a b all_tables none) name.table in
    let clear : has_conflict b x ≡ false =
    none_in_table (has_conflict b) name.table a (none_mapped name_of _ table_none) name x has (in_table x name (are_named name x has) (checked name x has)) in
    ap (conflicts x) (sym held ∙ ap (get b) (sym (are_named name x has))) ∙ clear

none_torn : (a b : Rows) → AreNamed (get a) → AreApart (get a) (get b) → (table : Table) → first_conflict_in table a b ≡ None
none_torn a b are_named apart table = ap (option_map name_of) (table_has_none (has_conflict b) table a (λ name x has _.
    clear_row x (get b (name_of x)) (λ y held same. apart (name_of x) x y (ap (get a) (are_named name x has) ∙ has) held same)))

pub apart_has_no_tie : (a b : Rows) → AreNamed (get a) → AreChecked (get a) → (first_conflict a b ≡ None) ↔ AreApart (get a) (get b)
apart_has_no_tie a b are_named checked = (
  (λ none name x y has held same. agree x y (not_torn a b name x y are_named checked none has held) same),
  (λ apart. none_of_all a b all_tables (none_torn a b are_named apart)),
)

-- ---- the least name
-- these tables stand one after the other from a place on
AreFrom : ℕ → List Table → Type 0
AreFrom place [] = ⊤
AreFrom place (table ∷ more) = (table_place table ≡ place) × AreFrom (suc place) more

-- no table before this one holds a name that is in doubt
abbrev AreClearBefore : Rows → Rows → Table → List Table → Type 0
AreClearBefore a b table = AllByRecursion (λ (other : Table). table_place other < table_place table → first_conflict_in other a b ≡ None)

none_before : (a b : Rows) (table : Table) (place : ℕ) (among : List Table) → table_place table < place → AreFrom place among → AreClearBefore a b table among
unfolding AreFrom
none_before a b table place [] behind from = tt
none_before a b table place (other ∷ more) behind from =
    let at : table_place other ≡ place = from.0 in
    ((λ less. absurd (omega (arith, at, less, behind))), none_before a b table (suc place) more (omega (arith, behind)) from.1)

-- the table that holds the first name
abbrev IsFirstOf : Rows → Rows → List Table → Name → Table → Type 0
IsFirstOf a b among name table = (first_conflict_in table a b ≡ Some name) × AreClearBefore a b table among

first_table : (a b : Rows) (place : ℕ) (among : List Table) (name : Name) → AreFrom place among → first_conflict_of among a b ≡ Some name → (table : Table) × IsFirstOf a b among name table
unfolding AreFrom
first_table a b place [] name from is = absurd (not_none (sym is))
first_table a b place (table ∷ more) name from is =
    elim (first_conflict_in table a b) as (λ o. first_conflict_in table a b ≡ o → option_or o (first_conflict_of more a b) ≡ Some name → (found : Table) × IsFirstOf a b (table ∷ more) name found) [
      | None ↦ λ none is. behind none (first_table a b (suc place) more name from.1 is)
      | Some first ↦ λ some is.
          let at : table_place table ≡ place = from.0 in
          (table, (some ∙ is, ((λ less. absurd (omega (arith, less))), none_before a b table (suc place) more (omega (arith, at)) from.1)))
    ] refl is
  where
    behind : first_conflict_in table a b ≡ None → ((found : Table) × IsFirstOf a b more name found) → (found : Table) × IsFirstOf a b (table ∷ more) name found
    behind none (found, (some, clear)) = (found, (some, ((λ _. none), clear)))

tables_rise : (x y : Name) → name_cmp x y ≡ Less → table_place x.table ≤ table_place y.table
tables_rise x y is =
    let p = table_place x.table in
    let q = table_place y.table in
    elim (nat_cmp p q) as (λ r. nat_cmp p q ≡ r → ordering_then r (int_cmp x.id y.id) ≡ Less → p ≤ q) [
      | Less ↦ λ is _. let h : p < q = ranked p q Less (sym is) in omega (arith, h)
      | Equal ↦ λ is _. let h : p ≡ q = ranked p q Equal (sym is) in omega (arith, h)
      | Greater ↦ λ _ is. absurd (subst (λ r. T (is_lt r)) (sym is) tt)
    ] refl is

-- a row that conflicts, as the walk sees it
conflict_at : (b : Rows) (name : Name) (x : Row) (at : RowsByName) → at name ≡ Some x → name_of x ≡ name → has_conflict b x ≡ true → ConflictAt at (get b) name
conflict_at b name x at has is_named conflict =
    elim (get b name) as (λ o. get b name ≡ o → conflicts x o ≡ true → ConflictAt at (get b) name) [
      | None ↦ λ _ conflict. absurd (not_both conflict refl)
      | Some y ↦ λ held conflict. (
        x,
        y,
        has,
        held,
        (signed_Decides (stamp_of x) (stamp_of y)).0 (first_so (int_eq (stamp_of x) (stamp_of y)) (not (same_content x y)) conflict),
        is_not (same_content x y) (second_so (int_eq (stamp_of x) (stamp_of y)) (not (same_content x y)) conflict),
      )
    ] refl (ap (λ (n : Name). conflicts x (get b n)) (sym is_named) ∙ conflict)
  where
    is_not : (s : Bool) → not s ≡ true → s ≡ false
    is_not true is = sym is
    is_not false is = refl

-- one that is in no doubt does not conflict
clear_under : (a b : Rows) (name : Name) → AreNamed (get a) → ((x : Row) → get a name ≡ Some x → has_conflict b x ≡ false) → ¬ (ConflictAt (get a) (get b) name)
clear_under a b name are_named clear (x, y, has, held, same, differ) =
    let seen : conflicts x (Some y) ≡ false = ap (conflicts x) (sym held ∙ ap (get b) (sym (are_named name x has))) ∙ clear x has in
    not_both (agree x y seen same) differ

least_in : (a b : Rows) (name : Name) (table : Table) → AreNamed (get a) → AreChecked (get a) → IsFirstOf a b all_tables name table → IsLeastConflict (get a) (get b) name
least_in a b name table are_named checked (some, clear) = of_first (first_in_table (has_conflict b) table a name are_named some)
  where
    of_first : ((row : Row) × IsFirstIn (has_conflict b) table a name row) → IsLeastConflict (get a) (get b) name
    of_first (row, first) =
        let own : table_place name.table ≡ table_place table = (unsigned_Decides (table_place name.table) (table_place table)).0 (first_so (table_place name.table == table_place table) (int_lt (pos 0) name.id) first.inside) in
        record {
          conflict = conflict_at b name row (get a) first.stands (are_named name row first.stands) first.passes;
          below = λ q less. clear_under a b q are_named (λ x has.
              let low : table_place q.table ≤ table_place name.table = tables_rise q name less in
              let inside = in_table x q (are_named q x has) (checked q x has) in
              elim (eq-or-lt_of_le low) as (λ _. has_conflict b x ≡ false) [
                | inl same ↦ first.below q x less has (ap (λ (n : ℕ). table_place q.table == n && int_lt (pos 0) q.id) (sym (same ∙ own)) ∙ inside)
                | inr before ↦ none_in_table (has_conflict b) q.table a (none_mapped name_of _ (of_table (λ (other : Table). table_place other < table_place table → first_conflict_in other a b ≡ None) clear q.table (omega (arith, before, own)))) q x has inside
              ]);
        }

pub first_torn_least : (a b : Rows) (name : Name) → AreNamed (get a) → AreChecked (get a) → first_conflict a b ≡ Some name → IsLeastConflict (get a) (get b) name
unfolding AreFrom
first_torn_least a b name are_named checked is = of_table_found (first_table a b 0 all_tables name (refl, (refl, (refl, (refl, (refl, (refl, (refl, (refl, (refl, tt))))))))) is)
  where
    of_table_found : ((table : Table) × IsFirstOf a b all_tables name table) → IsLeastConflict (get a) (get b) name
    of_table_found (table, first) = least_in a b name table are_named checked first
