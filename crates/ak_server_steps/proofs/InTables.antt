-- All rows are the rows of each table, table by table.
use Rattle.std.specs.Cmp.{ranked, unsigned_Decides}
use Rattle.std.specs.FinMap.{entries, entries_sorted, is_sorted}
use Rattle.std.specs.FinMap.Entries.{below_all}
use Rattle.std.specs.List.{AllByRecursion}
use Rattle.std.specs.Ordering.{nat_cmp, int_cmp, is_lt, ordering_then}
use Rattle.std.specs.Prelude.{◌≡◌, ℕ, suc, pos, ◌<◌, ◌≤◌, true, false, T, ◌==◌, ◌&&◌, cond, int_lt, List, [], ◌∷◌, ◌++◌, ◌+◌, map, filter, drop, get_or}
use Rattle.std.specs.declared.cmp.Ordering.TheVariants.{Less, Equal, Greater}
use Rattle.std.proofs.Common.{refl, sym, ap, subst, ◌∙◌, arith, append_assoc, append-nil}
use Rattle.std.proofs.lemmas.Bool.{ne_eqb}
use Rattle.std.proofs.lemmas.List.{drop_all, drop_more}
use Rattle.ak_base.specs.Names.{name_cmp, table_place}
use Rattle.ak_base.specs.Rows.{IsChecked, name_of}
use Rattle.ak_base.specs.Tables.{all_tables}
use Rattle.ak_base.specs.declared.names.Name.{Name}
use Rattle.ak_base.specs.declared.names.Table.{Table}
use Rattle.ak_base.specs.declared.names.Table.TheVariants as tables
use Rattle.ak_base.specs.declared.rows.Row.{Row}
use Rattle.ak_keep.proofs.TablePlaces.{below_nine}
use Rattle.ak_keep.proofs.Paging.{picked}
use Rattle.ak_keep.proofs.RowsByName.{both_first, both_second}
use Rattle.ak_keep.specs.Collections.{Rows, Holding, IsWellFormed, is_past}
use Rattle.ak_keep.specs.Keepers.{Keeping, WhereTold}
use Rattle.ak_merge.proofs.Finding.{id_over_zero}
use Rattle.ak_sync_rows.proofs.Pages.{both}
use Rattle.ak_server_steps.specs.Wholes.{rows_in}

-- the rows of these tables, table by table
abbrev pub rows_in_all : List Table → Rows → List Row
rows_in_all [] held = []
rows_in_all (table ∷ more) held = rows_in table held ++ rows_in_all more held

abbrev among_all : List Table → List (Name × Row) → List Row
among_all [] es = []
among_all (table ∷ more) es = picked table (pos 0) es ++ among_all more es

abbrev rows_among : List (Name × Row) → List Row
rows_among es = map (λ (entry : Name × Row). entry.1) es

-- names of the table of this place, or of a later one
abbrev AreFrom : ℕ → List (Name × Row) → Type 0
AreFrom n es = AllByRecursion (λ (entry : Name × Row). n ≤ table_place entry.0.table) es

abbrev AreOverZero : List (Name × Row) → Type 0
AreOverZero es = AllByRecursion (λ (entry : Name × Row). int_lt (pos 0) entry.0.id ≡ true) es

-- the tables from this place on
abbrev AreAllFrom : ℕ → List Table → Type 0
AreAllFrom n [] = 9 ≤ n
AreAllFrom n (table ∷ more) = (table_place table ≡ n) × AreAllFrom (suc n) more

-- a later name has a later table, or the same
tables_rise : (x y : Name) → T (is_lt (name_cmp x y)) → table_place x.table ≤ table_place y.table
tables_rise x y =
    let p = table_place x.table in
    let q = table_place y.table in
    elim (nat_cmp p q) as (λ r. nat_cmp p q ≡ r → T (is_lt (ordering_then r (int_cmp x.id y.id))) → p ≤ q) [
      | Less ↦ λ is _. let h : p < q = ranked p q Less (sym is) in omega (arith, h)
      | Equal ↦ λ is _. let h : p ≡ q = ranked p q Equal (sym is) in omega (arith, h)
      | Greater ↦ λ is h. absurd h
    ] refl

after : (n : ℕ) (x : Name) (es : List (Name × Row)) → n ≤ table_place x.table → T (below_all name_cmp x es) → AreFrom n es
after n x [] from h = tt
after n x (e ∷ es) from h =
    let rise = tables_rise x e.0 (both_first _ _ h) in
    (omega (arith, from, rise), after n x es from (both_second _ _ h))

-- names of later tables are not in an earlier one
none_in : (table : Table) (es : List (Name × Row)) → AreFrom (suc (table_place table)) es → picked table (pos 0) es ≡ []
none_in table [] from = refl
none_in table (e ∷ es) from =
    let h = from.0 in
    let other : (table_place e.0.table == table_place table) ≡ false = ne_eqb _ _ (λ is. omega (arith, is, h)) in
    ap (λ b. rows_among (cond (b && int_lt (pos 0) e.0.id) (e ∷ filter (λ (entry : Name × Row). is_past table (pos 0) entry.0) es) (filter (λ (entry : Name × Row). is_past table (pos 0) entry.0) es))) other
    ∙ none_in table es from.1

-- a name of an earlier table is in none of these
skipped : (n : ℕ) (left : List Table) (e : Name × Row) (es : List (Name × Row)) → AreAllFrom n left → table_place e.0.table < n
    → among_all left (e ∷ es) ≡ among_all left es
skipped n [] e es all earlier = refl
skipped n (table ∷ more) e es all earlier =
    let is = all.0 in
    let other : (table_place e.0.table == table_place table) ≡ false = ne_eqb _ _ (λ same. omega (arith, same, is, earlier)) in
    let rest : List Row = among_all more (e ∷ es) in
    ap (λ b. rows_among (cond (b && int_lt (pos 0) e.0.id) (e ∷ filter (λ (entry : Name × Row). is_past table (pos 0) entry.0) es) (filter (λ (entry : Name × Row). is_past table (pos 0) entry.0) es)) ++ rest) other
    ∙ ap (λ (rows : List Row). picked table (pos 0) es ++ rows) (skipped (suc n) more e es all.1 (omega (arith, earlier)))

later_place : (table : Table) (n m : ℕ) → table_place table ≡ n → (m == table_place table) ≡ false → n ≤ m → suc n ≤ m
later_place table n m is other from = grind (arith, is, other, from)

-- a table and those after it have all rows from its place on, if those after it have all from the next place on
with_table : (table : Table) (more : List Table) (n : ℕ) → AreAllFrom n (table ∷ more)
    → ((es : List (Name × Row)) → T (is_sorted name_cmp es) → AreFrom (suc n) es → AreOverZero es → among_all more es ≡ rows_among es)
    → (es : List (Name × Row)) → T (is_sorted name_cmp es) → AreFrom n es → AreOverZero es → among_all (table ∷ more) es ≡ rows_among es
with_table table more n all later [] sorted from over = later [] tt tt tt
with_table table more n all later (e ∷ es) sorted from over =
    let rest : List (Name × Row) = filter (λ (entry : Name × Row). is_past table (pos 0) entry.0) es in
    elim (table_place e.0.table == table_place table) as (λ b. (table_place e.0.table == table_place table) ≡ b
    → rows_among (cond (b && int_lt (pos 0) e.0.id) (e ∷ rest) rest) ++ among_all more (e ∷ es) ≡ rows_among (e ∷ es)) [
      | true ↦ λ is.
          let same : table_place e.0.table ≡ n = (unsigned_Decides (table_place e.0.table) (table_place table)).0 is ∙ all.0 in
          ap (λ b. rows_among (cond b (e ∷ rest) rest) ++ among_all more (e ∷ es)) over.0
          ∙ ap (λ (rows : List Row). e.1 ∷ (rows_among rest ++ rows)) (skipped (suc n) more e es all.1 (omega (arith, same)))
          ∙ ap (λ (rows : List Row). e.1 ∷ rows) (with_table table more n all later es (both_second _ _ sorted) from.1 over.1)
      | false ↦ λ is.
          let next : suc n ≤ table_place e.0.table = later_place table n (table_place e.0.table) all.0 is from.0 in
          let behind : AreFrom (suc n) es = after (suc n) e.0 es next (both_first _ _ sorted) in
          let none : picked table (pos 0) es ≡ [] = none_in table es (subst (λ (m : ℕ). AreFrom (suc m) es) (sym all.0) behind) in
          ap (λ (rows : List Row). rows ++ among_all more (e ∷ es)) none
          ∙ later (e ∷ es) sorted (next, behind) over
    ] refl

none_from_nine : (n : ℕ) (e : Name × Row) → 9 ≤ n → n ≤ table_place e.0.table → ⊥
none_from_nine n e end from = let h = below_nine e.0.table in omega (arith, end, from, h)

all_from : (n : ℕ) (left : List Table) → AreAllFrom n left
    → (es : List (Name × Row)) → T (is_sorted name_cmp es) → AreFrom n es → AreOverZero es → among_all left es ≡ rows_among es
all_from n [] all [] sorted from over = refl
all_from n [] all (e ∷ es) sorted from over = absurd (none_from_nine n e all from.0)
all_from n (table ∷ more) all es sorted from over = with_table table more n all (all_from (suc n) more all.1) es sorted from over

any_from_zero : (es : List (Name × Row)) → AreFrom 0 es
any_from_zero [] = tt
any_from_zero (e ∷ es) = (omega arith, any_from_zero es)

checked_over_zero : (es : List (Name × Row)) → AllByRecursion (λ (entry : Name × Row). name_of entry.1 ≡ entry.0) es
    → AllByRecursion (λ (entry : Name × Row). IsChecked entry.1) es → AreOverZero es
checked_over_zero [] named checked = tt
checked_over_zero (e ∷ es) named checked =
    (ap (λ (n : Name). int_lt (pos 0) n.id) (sym named.0) ∙ id_over_zero e.1 checked.0, checked_over_zero es named.1 checked.1)

among_in : (left : List Table) (held : Rows) → rows_in_all left held ≡ among_all left (entries held)
among_in [] held = refl
among_in (table ∷ more) held = ap (λ (rows : List Row). rows_in table held ++ rows) (among_in more held)

-- all rows of what is well formed
pub all_rows_in : (h : Holding) → IsWellFormed h → rows_in_all all_tables h.rows ≡ map (λ entry. entry.1) (entries h.rows)
all_rows_in h formed =
    among_in all_tables h.rows
    ∙ all_from 0 all_tables (refl, (refl, (refl, (refl, (refl, (refl, (refl, (refl, (refl, omega arith))))))))) (entries h.rows) (entries_sorted h.rows)
    (any_from_zero (entries h.rows)) (checked_over_zero (entries h.rows) formed.named formed.checked)

-- ---- tables that are read one after the other
-- the rows so far with those of the next table, and those of the tables after it, are all
pub table_read : (k : Keeping) (i : ℕ) (old new : List Row) → i < 9
    → WhereTold k (λ h. old ++ rows_in_all (drop i all_tables) h.rows ≡ rows_in_all all_tables h.rows)
    → WhereTold k (λ h. new ≡ old ++ rows_in (get_or all_tables i tables.Note) h.rows)
    → WhereTold k (λ h. new ++ rows_in_all (drop (i + 1) all_tables) h.rows ≡ rows_in_all all_tables h.rows)
table_read k i old new low have more =
    both k.told (λ h. old ++ rows_in_all (drop i all_tables) h.rows ≡ rows_in_all all_tables h.rows) (λ h. new ≡ old ++ rows_in (get_or all_tables i tables.Note) h.rows)
    (λ h. new ++ rows_in_all (drop (i + 1) all_tables) h.rows ≡ rows_in_all all_tables h.rows)
    (λ h so added.
    ap (λ (rows : List Row). rows ++ rows_in_all (drop (i + 1) all_tables) h.rows) added
    ∙ append_assoc old (rows_in (get_or all_tables i tables.Note) h.rows) (rows_in_all (drop (i + 1) all_tables) h.rows)
    ∙ sym (ap (λ (left : List Table). old ++ rows_in_all left h.rows) (drop_more all_tables i tables.Note low))
    ∙ so) have more

-- once no table is left, they are all rows of what is well formed
pub tables_read : (k : Keeping) (i : ℕ) (rows all : List Row) → 9 ≤ i → all ≡ rows → WhereTold k IsWellFormed
    → WhereTold k (λ h. rows ++ rows_in_all (drop i all_tables) h.rows ≡ rows_in_all all_tables h.rows)
    → WhereTold k (λ h. all ≡ map (λ entry. entry.1) (entries h.rows))
tables_read k i rows all end made formed have =
    both k.told IsWellFormed (λ h. rows ++ rows_in_all (drop i all_tables) h.rows ≡ rows_in_all all_tables h.rows) (λ h. all ≡ map (λ entry. entry.1) (entries h.rows))
    (λ h fine is.
    made
    ∙ sym (append-nil rows)
    ∙ sym (ap (λ (left : List Table). rows ++ rows_in_all left h.rows) (drop_all i all_tables end))
    ∙ is
    ∙ all_rows_in h fine) formed have
