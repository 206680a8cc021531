-- What stands under each name after rows of a table were changed and put.
use Rattle.std.specs.Prelude.{◌≡◌, pos, Bool, true, false, cond, List, [], ◌∷◌, map, filter, find, Option, Some, None, is_some}
use Rattle.std.proofs.Common.{refl, sym, ap, ◌∙◌}
use Rattle.std.specs.Cmp.{tied_itself}
use Rattle.std.specs.FinMap.{entries, get}
use Rattle.std.specs.List.{AllByRecursion}
use Rattle.std.specs.Option.{option_and_then, option_or}
use Rattle.std.specs.Ordering.{eq_by_cmp, is_eq}
use Rattle.ak_base.specs.Names.{name_cmp, names_total}
use Rattle.ak_base.specs.Rows.{name_of}
use Rattle.ak_base.specs.declared.names.Name.{Name}
use Rattle.ak_base.specs.declared.names.Table.{Table}
use Rattle.ak_base.specs.declared.rows.Row.{Row}
use Rattle.ak_edit_calls.proofs.Overlaying.{put_under, rest_of}
use Rattle.ak_edit.specs.Overlays.{Overlay, row_over}
use Rattle.ak_keep.proofs.RowsByName.{all_from_gets, entries_found, same_of_tied}
use Rattle.ak_keep.specs.Collections.{Rows, StandsUnderNames, is_past, rows_past}
use Rattle.ak_merge.proofs.EditFacts.{false_true}
use Rattle.ak_merge.proofs.Finding.{none_in_table}
use Rattle.ak_merge.proofs.PartLaws.{past_zero}
use Rattle.ak_keep.specs.Graves.{RowsByName}
use Rattle.ak_merge.specs.Holdings.{AreChecked, AreNamed}
use Rattle.ak_study.specs.RowChanges.{put_rows_changed, put_some}

-- a change of rows of one table, which keep their names
pub record ChangesTable (own : Table) (change : Row → Option Row) : Type 0 where
  pub name : (row made : Row) → change row ≡ Some made → name_of made ≡ name_of row
  pub table : (row made : Row) → change row ≡ Some made → (name_of row).table ≡ own

-- each row is the one that stands under its name
abbrev pub AreHeld : RowsByName → List Row → Type 0
AreHeld at = AllByRecursion (λ (row : Row). at (name_of row) ≡ Some row)

pub or_again : (x y : Option Row) → option_or x (option_or x y) ≡ option_or x y
or_again None y = refl
or_again (Some x) y = refl

-- ---- one row
pub some_under : (made : Option Row) (at : RowsByName) (o : Overlay) (key q : Name) → ((m : Row) → made ≡ Some m → name_of m ≡ key)
    → row_over (put_some made o) at q ≡ cond (eq_by_cmp name_cmp q key) (option_or made (row_over o at q)) (row_over o at q)
some_under None at o key q names = elim (eq_by_cmp name_cmp q key) as (λ b. row_over o at q ≡ cond b (row_over o at q) (row_over o at q)) [ true ↦ refl | false ↦ refl ]
some_under (Some m) at o key q names =
    put_under o at m q ∙ ap (λ (n : Name). cond (eq_by_cmp name_cmp q n) (Some m) (row_over o at q)) (names m refl)

pub some_rest : (made : Option Row) (o : Overlay) → rest_of (put_some made o) ≡ rest_of o
some_rest None o = refl
some_rest (Some m) o = refl

-- ---- rows of a list
one_more : (f x : Option Row) (t b : Bool) (here : Option Row) → (t ≡ true → f ≡ here)
    → cond b (option_or f (cond t (option_or here x) x)) (cond t (option_or here x) x) ≡ cond (cond t true b) (option_or f x) x
one_more f x true true here is = ap (λ (h : Option Row). option_or f (option_or h x)) (sym (is refl)) ∙ or_again f x
one_more f x true false here is = ap (λ (h : Option Row). option_or h x) (sym (is refl))
one_more f x false true here is = refl
one_more f x false false here is = refl

some_cond : (t : Bool) (row : Row) (found : Option Row) → is_some (cond t (Some row) found) ≡ cond t true (is_some found)
some_cond true row found = refl
some_cond false row found = refl

changed_among : (table : Table) (change : Row → Option Row) (at : RowsByName) (rows : List Row) (o : Overlay) (q : Name) → ChangesTable table change → AreHeld at rows
    → row_over (put_rows_changed change rows o) at q
    ≡ cond (is_some (find (λ (row : Row). eq_by_cmp name_cmp q (name_of row)) rows)) (option_or (option_and_then change (at q)) (row_over o at q)) (row_over o at q)
changed_among table change at [] o q changes held = refl
changed_among table change at (row ∷ rows) o q changes held =
    let f : Option Row = option_and_then change (at q) in
    let x : Option Row = row_over o at q in
    let found : Option Row = find (λ (r : Row). eq_by_cmp name_cmp q (name_of r)) rows in
    changed_among table change at rows (put_some (change row) o) q changes held.1
    ∙ ap (λ (y : Option Row). cond (is_some found) (option_or f y) y) (some_under (change row) at o (name_of row) q (λ m is. changes.name row m is))
    ∙ one_more f x (eq_by_cmp name_cmp q (name_of row)) (is_some found) (change row)
    (λ tied. ap (λ (y : Option Row). option_and_then change y) (ap at (same_of_tied q (name_of row) tied) ∙ held.0))
    ∙ ap (λ (b : Bool). cond b (option_or f x) x) (sym (some_cond (eq_by_cmp name_cmp q (name_of row)) row found))

pub changed_rest : (change : Row → Option Row) (rows : List Row) (o : Overlay) → rest_of (put_rows_changed change rows o) ≡ rest_of o
changed_rest change [] o = refl
changed_rest change (row ∷ rows) o = changed_rest change rows (put_some (change row) o) ∙ some_rest (change row) o

-- ---- the rows of a table
pub held_among : (held : Rows) (table : Table) (es : List (Name × Row)) → AllByRecursion (λ (e : Name × Row). get held e.0 ≡ Some e.1) es → AllByRecursion (λ (e : Name × Row). name_of e.1 ≡ e.0) es
    → AreHeld (get held) (map (λ (e : Name × Row). e.1) (filter (λ (e : Name × Row). is_past table (pos 0) e.0) es))
held_among held table [] found named = tt
held_among held table (e ∷ es) found named =
    let more : List (Name × Row) = filter (λ (entry : Name × Row). is_past table (pos 0) entry.0) es in
    elim (is_past table (pos 0) e.0) as (λ b. AreHeld (get held) (map (λ (entry : Name × Row). entry.1) (cond b (e ∷ more) more))) [
      | true ↦ (ap (get held) named.0 ∙ found.0, held_among held table es found.1 named.1)
      | false ↦ held_among held table es found.1 named.1
    ]

pub stands : (held : Rows) → AreNamed (get held) → StandsUnderNames held
stands held named = all_from_gets (λ (e : Name × Row). name_of e.1 ≡ e.0) held named

tied_to : (q : Name) (row : Row) → name_of row ≡ q → eq_by_cmp name_cmp q (name_of row) ≡ true
tied_to q row is = ap (eq_by_cmp name_cmp q) is ∙ ap is_eq (tied_itself names_total q)

-- a row of the table is among its rows
pub among : (table : Table) (held : Rows) (q : Name) (row : Row) → AreNamed (get held) → AreChecked (get held) → get held q ≡ Some row → (name_of row).table ≡ table
    → is_some (find (λ (r : Row). eq_by_cmp name_cmp q (name_of r)) (rows_past table (pos 0) held)) ≡ true
among table held q row named checked is in_table =
    let test : Row → Bool = λ (r : Row). eq_by_cmp name_cmp q (name_of r) in
    let bears : name_of row ≡ q = named q row is in
    elim (find test (rows_past table (pos 0) held)) as (λ (o : Option Row). find test (rows_past table (pos 0) held) ≡ o → is_some o ≡ true) [
      | Some found ↦ λ _. refl
      | None ↦ λ none.
          false_true (sym (none_in_table test table held none q row is (ap (is_past table (pos 0)) (sym bears) ∙ past_zero table row in_table (checked q row is))) ∙ tied_to q row bears)
    ] refl

-- what stands under a name once the rows of a table were changed
pub changed_under : (table : Table) (change : Row → Option Row) (held : Rows) (o : Overlay) (q : Name) → ChangesTable table change → AreNamed (get held) → AreChecked (get held)
    → row_over (put_rows_changed change (rows_past table (pos 0) held) o) (get held) q ≡ option_or (option_and_then change (get held q)) (row_over o (get held) q)
changed_under table change held o q changes named checked =
    let x : Option Row = row_over o (get held) q in
    let list : List Row = rows_past table (pos 0) held in
    let test : Row → Bool = λ (r : Row). eq_by_cmp name_cmp q (name_of r) in
    changed_among table change (get held) list o q changes (held_among held table (entries held) (entries_found held) (stands held named))
    ∙ (elim (get held q) as (λ (y : Option Row). get held q ≡ y → cond (is_some (find test list)) (option_or (option_and_then change y) x) x ≡ option_or (option_and_then change y) x) [
      | None ↦ λ _. either (is_some (find test list)) x
      | Some row ↦ λ is.
          elim (change row) as (λ (m : Option Row). change row ≡ m → cond (is_some (find test list)) (option_or m x) x ≡ option_or m x) [
            | None ↦ λ _. either (is_some (find test list)) x
            | Some made ↦ λ makes. ap (λ (b : Bool). cond b (Some made) x) (among table held q row named checked is (changes.table row made makes))
          ] refl
    ] refl)
  where
    either : (b : Bool) (y : Option Row) → cond b y y ≡ y
    either true y = refl
    either false y = refl
