-- What the rows of a table that meet a test ask for, put one by one after a change: each row that meets it is changed, and every other
-- row stays.
use Rattle.std.specs.Prelude.{◌≡◌, ℤ, pos, Bool, true, false, ◌&&◌, cond, if◌then◌else◌, List, [], ◌∷◌, find, filter, map, Option, Some, None, is_some}
use Rattle.std.proofs.Common.{refl, sym, ap, ◌∙◌}
use Rattle.std.proofs.Math.Bool.{and-false}
use Rattle.std.proofs.lemmas.Option.{same_Some}
use Rattle.std.specs.Cmp.{tied_itself}
use Rattle.std.specs.FinMap.{entries, get}
use Rattle.std.specs.List.{AllByRecursion}
use Rattle.std.specs.Option.{option_map}
use Rattle.std.specs.Ordering.{eq_by_cmp, is_eq}
use Rattle.ak_base.specs.Names.{name_cmp, names_total}
use Rattle.ak_base.specs.Rows.{IsChecked, name_of}
use Rattle.ak_base.specs.declared.names.Name.{Name}
use Rattle.ak_base.specs.declared.names.Table.{Table}
use Rattle.ak_base.specs.declared.rows.Row.{Row}
use Rattle.ak_edit_calls.proofs.Overlaying.{none_noted, put_under, rest_of}
use Rattle.ak_edit.specs.Overlays.{Overlay, put_over, row_over, unchanged}
use Rattle.ak_keep.proofs.RowsByName.{all_from_gets, same_of_tied}
use Rattle.ak_keep.specs.Collections.{Rows, is_past, rows_past}
use Rattle.ak_merge.proofs.EditFacts.{false_true}
use Rattle.ak_merge.proofs.Finding.{none_in_table, table_has_none}
use Rattle.ak_keep.specs.Graves.{RowsByName}
use Rattle.ak_merge.specs.Holdings.{AreChecked, AreNamed}

-- the row was put changed, if it meets the test
abbrev pub put_one : (Row → Bool) → (Row → Row) → Row → Overlay → Overlay
put_one has change row o = if has row then put_over (change row) o else o

-- the same of each of these rows
abbrev pub put_all : (Row → Bool) → (Row → Row) → List Row → Overlay → Overlay
put_all has change [] o = o
put_all has change (row ∷ rows) o = put_all has change rows (put_one has change row o)

-- a row changed, if it meets the test
abbrev pub changed_by : (Row → Bool) → (Row → Row) → Row → Row
changed_by has change row = if has row then change row else row

-- a change keeps what a row is called
abbrev pub KeepsNames : (Row → Row) → Type 0
KeepsNames change = (row : Row) → name_of (change row) ≡ name_of row

-- a row that meets the test is in the table
abbrev pub AreInTable : (Row → Bool) → Table → Type 0
AreInTable has table = (row : Row) (name : Name) → name_of row ≡ name → IsChecked row → has row ≡ true → is_past table (pos 0) name ≡ true

-- ---- one row
-- whether it is the row of this name, and meets the test
abbrev is_one : (Row → Bool) → Name → Row → Bool
is_one has name row = has row && eq_by_cmp name_cmp name (name_of row)

-- a row that was put is the one of this name, or another
one_put : (change : Row → Row) (held : RowsByName) (name : Name) (row : Row) (o : Overlay) (same : Bool) → KeepsNames change → eq_by_cmp name_cmp name (name_of row) ≡ same → held (name_of row) ≡ Some row
    → row_over (put_over (change row) o) held name ≡ cond same (option_map change (held name)) (row_over o held name)
one_put change held name row o same keeps is there =
    put_under o held (change row) name
    ∙ ap (λ (n : Name). cond (eq_by_cmp name_cmp name n) (Some (change row)) (row_over o held name)) (keeps row)
    ∙ ap (λ b. cond b (Some (change row)) (row_over o held name)) is
    ∙ elim same as (λ b. eq_by_cmp name_cmp name (name_of row) ≡ b → cond b (Some (change row)) (row_over o held name) ≡ cond b (option_map change (held name)) (row_over o held name)) [
      | true ↦ λ tied. sym (ap (option_map change) (ap held (same_of_tied name (name_of row) tied) ∙ there))
      | false ↦ λ _. refl
    ] is

one_under : (has : Row → Bool) (change : Row → Row) (held : RowsByName) (name : Name) (row : Row) (o : Overlay) → KeepsNames change → held (name_of row) ≡ Some row
    → row_over (put_one has change row o) held name ≡ cond (is_one has name row) (option_map change (held name)) (row_over o held name)
one_under has change held name row o keeps there =
    elim (has row) as (λ b. row_over (if b then put_over (change row) o else o) held name ≡ cond (b && eq_by_cmp name_cmp name (name_of row)) (option_map change (held name)) (row_over o held name)) [
      | true ↦ one_put change held name row o (eq_by_cmp name_cmp name (name_of row)) keeps refl there
      | false ↦ refl
    ]

-- ---- all of them
all_under : (has : Row → Bool) (change : Row → Row) (held : RowsByName) (name : Name) (all : List Row) (o : Overlay) → KeepsNames change → AllByRecursion (λ (row : Row). held (name_of row) ≡ Some row) all
    → row_over (put_all has change all o) held name ≡ cond (is_some (find (is_one has name) all)) (option_map change (held name)) (row_over o held name)
all_under has change held name [] o keeps there = refl
all_under has change held name (row ∷ all) o keeps there =
    all_under has change held name all (put_one has change row o) keeps there.1
    ∙ ap (cond (is_some (find (is_one has name) all)) (option_map change (held name))) (one_under has change held name row o keeps there.0)
    ∙ elim (is_one has name row) as (λ b. cond (is_some (find (is_one has name) all)) (option_map change (held name)) (cond b (option_map change (held name)) (row_over o held name))
    ≡ cond (is_some (cond b (Some row) (find (is_one has name) all))) (option_map change (held name)) (row_over o held name)) [
      | true ↦ elim (is_some (find (is_one has name) all)) as (λ b. cond b (option_map change (held name)) (option_map change (held name)) ≡ option_map change (held name)) [ true ↦ refl | false ↦ refl ]
      | false ↦ refl
    ]

-- the rows of a table stand under their names
picked_held : (held : RowsByName) (table : Table) (past : ℤ) (es : List (Name × Row)) → AllByRecursion (λ (e : Name × Row). held (name_of e.1) ≡ Some e.1) es
    → AllByRecursion (λ (row : Row). held (name_of row) ≡ Some row) (map (λ (e : Name × Row). e.1) (filter (λ (e : Name × Row). is_past table past e.0) es))
picked_held held table past [] all = tt
picked_held held table past (e ∷ es) all =
    let rest = picked_held held table past es all.1 in
    let others : List (Name × Row) = filter (λ (e : Name × Row). is_past table past e.0) es in
    elim (is_past table past e.0) as (λ b. AllByRecursion (λ (row : Row). held (name_of row) ≡ Some row) (map (λ (e : Name × Row). e.1) (cond b (e ∷ others) others))) [
      | true ↦ (all.0, rest)
      | false ↦ rest
    ]

table_held : (held : Rows) (table : Table) (past : ℤ) → AreNamed (get held) → AllByRecursion (λ (row : Row). get held (name_of row) ≡ Some row) (rows_past table past held)
table_held held table past named =
    picked_held (get held) table past (entries held)
    (all_from_gets (λ (e : Name × Row). get held (name_of e.1) ≡ Some e.1) held (λ name row is. ap (get held) (named name row is) ∙ is))

-- ---- whether a row that meets the test is found
-- another row is not the one, since it has another name
others_stay : (has : Row → Bool) (held : Rows) (name other : Name) (row next : Row) → AreNamed (get held) → get held name ≡ Some row → has row ≡ false → get held other ≡ Some next → is_one has name next ≡ false
others_stay has held name other row next named is lacks there =
    elim (eq_by_cmp name_cmp name (name_of next)) as (λ b. eq_by_cmp name_cmp name (name_of next) ≡ b → (has next && b) ≡ false) [
      | true ↦ λ tied.
          let same : name ≡ other = same_of_tied name (name_of next) tied ∙ named other next there in
          let this : row ≡ next = same_Some row next (sym is ∙ ap (get held) same ∙ there) in
          ap (λ (r : Row). has r && true) (sym this) ∙ ap (λ b. b && true) lacks
      | false ↦ λ _. and-false (has next)
    ] refl

found_there : (has : Row → Bool) (table : Table) (held : Rows) (name : Name) (row : Row) → AreInTable has table → AreNamed (get held) → AreChecked (get held) → get held name ≡ Some row
    → is_some (find (is_one has name) (rows_past table (pos 0) held)) ≡ has row
found_there has table held name row within named checked is =
    elim (has row) as (λ b. has row ≡ b → is_some (find (is_one has name) (rows_past table (pos 0) held)) ≡ b) [
      | true ↦ λ meets.
          let tied : eq_by_cmp name_cmp name (name_of row) ≡ true = ap (eq_by_cmp name_cmp name) (named name row is) ∙ ap is_eq (tied_itself names_total name) in
          let passes : is_one has name row ≡ true = ap (λ b. b && eq_by_cmp name_cmp name (name_of row)) meets ∙ tied in
          elim (find (is_one has name) (rows_past table (pos 0) held)) as (λ (x : Option Row). find (is_one has name) (rows_past table (pos 0) held) ≡ x → is_some x ≡ true) [
            | None ↦ λ none. false_true (sym (none_in_table (is_one has name) table held none name row is (within row name (named name row is) (checked name row is) meets)) ∙ passes)
            | Some found ↦ λ _. refl
          ] refl
      | false ↦ λ lacks. ap is_some (table_has_none (is_one has name) table held (λ other next there _. others_stay has held name other row next named is lacks there))
    ] refl

-- ---- every name
settled : (has : Row → Bool) (change : Row → Row) (table : Table) (held : Rows) (name : Name) (x : Option Row) → AreInTable has table → AreNamed (get held) → AreChecked (get held) → get held name ≡ x
    → cond (is_some (find (is_one has name) (rows_past table (pos 0) held))) (option_map change x) x ≡ option_map (changed_by has change) x
settled has change table held name None within named checked is =
    elim (is_some (find (is_one has name) (rows_past table (pos 0) held))) as (λ b. cond b (option_map change None) None ≡ option_map (changed_by has change) None) [ true ↦ refl | false ↦ refl ]
settled has change table held name (Some row) within named checked is =
    ap (λ b. cond b (Some (change row)) (Some row)) (found_there has table held name row within named checked is)
    ∙ elim (has row) as (λ b. cond b (Some (change row)) (Some row) ≡ Some (if b then change row else row)) [ true ↦ refl | false ↦ refl ]

-- the rows of the table that were put ask that each row which meets the test is changed
pub changed_asked : (has : Row → Bool) (change : Row → Row) (table : Table) (held : Rows) (name : Name) → KeepsNames change → AreInTable has table → AreNamed (get held) → AreChecked (get held)
    → row_over (put_all has change (rows_past table (pos 0) held) unchanged) (get held) name ≡ option_map (changed_by has change) (get held name)
changed_asked has change table held name keeps within named checked =
    all_under has change (get held) name (rows_past table (pos 0) held) unchanged keeps (table_held held table (pos 0) named)
    ∙ ap (cond (is_some (find (is_one has name) (rows_past table (pos 0) held))) (option_map change (get held name))) (none_noted (get held) name)
    ∙ settled has change table held name (get held name) within named checked refl

-- what is put says nothing besides rows
pub rest_put : (has : Row → Bool) (change : Row → Row) (all : List Row) (o : Overlay) → rest_of (put_all has change all o) ≡ rest_of o
rest_put has change [] o = refl
rest_put has change (row ∷ all) o =
    rest_put has change all (put_one has change row o)
    ∙ elim (has row) as (λ b. rest_of (if b then put_over (change row) o else o) ≡ rest_of o) [ true ↦ refl | false ↦ refl ]
