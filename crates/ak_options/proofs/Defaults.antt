-- What the decks that are put with options 1 ask for: each deck that has the options goes back, and every other row stays.
use Rattle.std.specs.Prelude.{◌≡◌, ℤ, pos, Bool, true, false, ◌&&◌, cond, if◌then◌else◌, List, [], ◌∷◌, ◌++◌, find, filter, map, Option, Some, None, is_some}
use Rattle.std.proofs.Common.{refl, sym, ap, subst, ◌∙◌}
use Rattle.std.proofs.Math.Bool.{and-false}
use Rattle.std.proofs.lemmas.Option.{same_Some}
use Rattle.std.specs.Cmp.{tied_itself}
use Rattle.std.specs.FinMap.{entries, get}
use Rattle.std.specs.List.{AllByRecursion}
use Rattle.std.specs.Option.{option_map}
use Rattle.std.specs.Ordering.{eq_by_cmp, is_eq}
use Rattle.ak_base.specs.Names.{name_cmp, names_total}
use Rattle.ak_base.specs.Rows.{IsChecked, name_of}
use Rattle.ak_base.specs.declared.names.Name.{Name}
use Rattle.ak_base.specs.declared.names.Table.{Table}
use Rattle.ak_base.specs.declared.names.Table.TheVariants as tables
use Rattle.ak_base.specs.declared.rows.Row.{Row}
use Rattle.ak_base.specs.declared.rows.Row.TheVariants as rows
use Rattle.ak_edit_calls.proofs.Overlaying.{none_noted, put_under, rest_of}
use Rattle.ak_edit.specs.Overlays.{Overlay, put_over, row_over, unchanged}
use Rattle.ak_keep.proofs.RowsByName.{all_from_gets, same_of_tied}
use Rattle.ak_keep.specs.Collections.{Rows, is_past, rows_past}
use Rattle.ak_merge.proofs.EditFacts.{false_true}
use Rattle.ak_merge.proofs.Finding.{id_over_zero, none_in_table, table_has_none}
use Rattle.ak_keep.specs.Graves.{RowsByName}
use Rattle.ak_merge.specs.Holdings.{AreChecked, AreNamed}
use Rattle.ak_options.specs.OptionDeletions.{has_options, put_default, put_defaults, with_default, without_options}

-- ---- one row
pub name_with_default : (row : Row) → name_of (with_default row) ≡ name_of row
name_with_default (rows.Deck deck) = refl
name_with_default (rows.Note note) = refl
name_with_default (rows.Card card) = refl
name_with_default (rows.Review review) = refl
name_with_default (rows.NoteType note_type) = refl
name_with_default (rows.Options group) = refl
name_with_default (rows.Grave grave) = refl

-- whether it is the row of this name, and a deck that has the options
abbrev goes_back : ℤ → Name → Row → Bool
goes_back options name row = has_options options row && eq_by_cmp name_cmp name (name_of row)

-- a row that was put is the one of this name, or another
put_one : (held : RowsByName) (name : Name) (row : Row) (o : Overlay) (same : Bool) → eq_by_cmp name_cmp name (name_of row) ≡ same → held (name_of row) ≡ Some row
    → row_over (put_over (with_default row) o) held name ≡ cond same (option_map with_default (held name)) (row_over o held name)
put_one held name row o same is there =
    put_under o held (with_default row) name
    ∙ ap (λ (n : Name). cond (eq_by_cmp name_cmp name n) (Some (with_default row)) (row_over o held name)) (name_with_default row)
    ∙ ap (λ b. cond b (Some (with_default row)) (row_over o held name)) is
    ∙ elim same as (λ b. eq_by_cmp name_cmp name (name_of row) ≡ b → cond b (Some (with_default row)) (row_over o held name) ≡ cond b (option_map with_default (held name)) (row_over o held name)) [
      | true ↦ λ tied. sym (ap (option_map with_default) (ap held (same_of_tied name (name_of row) tied) ∙ there))
      | false ↦ λ _. refl
    ] is

one_under : (options : ℤ) (held : RowsByName) (name : Name) (row : Row) (o : Overlay) → held (name_of row) ≡ Some row
    → row_over (put_default options row o) held name ≡ cond (goes_back options name row) (option_map with_default (held name)) (row_over o held name)
one_under options held name row o there =
    elim (has_options options row) as (λ b. row_over (if b then put_over (with_default row) o else o) held name ≡ cond (b && eq_by_cmp name_cmp name (name_of row)) (option_map with_default (held name)) (row_over o held name)) [
      | true ↦ put_one held name row o (eq_by_cmp name_cmp name (name_of row)) refl there
      | false ↦ refl
    ]

-- ---- all of them
all_under : (options : ℤ) (held : RowsByName) (name : Name) (all : List Row) (o : Overlay) → AllByRecursion (λ (row : Row). held (name_of row) ≡ Some row) all
    → row_over (put_defaults options all o) held name ≡ cond (is_some (find (goes_back options name) all)) (option_map with_default (held name)) (row_over o held name)
all_under options held name [] o there = refl
all_under options held name (row ∷ all) o there =
    all_under options held name all (put_default options row o) there.1
    ∙ ap (cond (is_some (find (goes_back options name) all)) (option_map with_default (held name))) (one_under options held name row o there.0)
    ∙ elim (goes_back options name row) as (λ b. cond (is_some (find (goes_back options name) all)) (option_map with_default (held name)) (cond b (option_map with_default (held name)) (row_over o held name))
    ≡ cond (is_some (cond b (Some row) (find (goes_back options name) all))) (option_map with_default (held name)) (row_over o held name)) [
      | true ↦ elim (is_some (find (goes_back options name) all)) as (λ b. cond b (option_map with_default (held name)) (option_map with_default (held name)) ≡ option_map with_default (held name)) [ true ↦ refl | false ↦ refl ]
      | false ↦ refl
    ]

-- the rows of a table stand under their names
picked_held : (held : RowsByName) (table : Table) (past : ℤ) (es : List (Name × Row)) → AllByRecursion (λ (e : Name × Row). held (name_of e.1) ≡ Some e.1) es
    → AllByRecursion (λ (row : Row). held (name_of row) ≡ Some row) (map (λ (e : Name × Row). e.1) (filter (λ (e : Name × Row). is_past table past e.0) es))
picked_held held table past [] all = tt
picked_held held table past (e ∷ es) all =
    let rest = picked_held held table past es all.1 in
    let others : List (Name × Row) = filter (λ (e : Name × Row). is_past table past e.0) es in
    elim (is_past table past e.0) as (λ b. AllByRecursion (λ (row : Row). held (name_of row) ≡ Some row) (map (λ (e : Name × Row). e.1) (cond b (e ∷ others) others))) [
      | true ↦ (all.0, rest)
      | false ↦ rest
    ]

table_held : (held : Rows) (table : Table) (past : ℤ) → AreNamed (get held) → AllByRecursion (λ (row : Row). get held (name_of row) ≡ Some row) (rows_past table past held)
table_held held table past named =
    picked_held (get held) table past (entries held)
    (all_from_gets (λ (e : Name × Row). get held (name_of e.1) ≡ Some e.1) held (λ name row is. ap (get held) (named name row is) ∙ is))

-- ---- whether a deck that has the options is found
-- a row that has the options is a deck
deck_past : (options : ℤ) (row : Row) (name : Name) → name_of row ≡ name → IsChecked row → has_options options row ≡ true → is_past tables.Deck (pos 0) name ≡ true
deck_past options (rows.Deck deck) name named checked has = subst (λ (n : Name). is_past tables.Deck (pos 0) n ≡ true) named (id_over_zero (rows.Deck deck) checked)
deck_past options (rows.Note note) name named checked has = false_true has
deck_past options (rows.Card card) name named checked has = false_true has
deck_past options (rows.Review review) name named checked has = false_true has
deck_past options (rows.NoteType note_type) name named checked has = false_true has
deck_past options (rows.Options group) name named checked has = false_true has
deck_past options (rows.Grave grave) name named checked has = false_true has

-- another row does not go back, since it has another name
others_stay : (options : ℤ) (held : Rows) (name other : Name) (row next : Row) → AreNamed (get held) → get held name ≡ Some row → has_options options row ≡ false → get held other ≡ Some next
    → goes_back options name next ≡ false
others_stay options held name other row next named is has there =
    elim (eq_by_cmp name_cmp name (name_of next)) as (λ b. eq_by_cmp name_cmp name (name_of next) ≡ b → (has_options options next && b) ≡ false) [
      | true ↦ λ tied.
          let same : name ≡ other = same_of_tied name (name_of next) tied ∙ named other next there in
          let this : row ≡ next = same_Some row next (sym is ∙ ap (get held) same ∙ there) in
          ap (λ (r : Row). has_options options r && true) (sym this) ∙ ap (λ b. b && true) has
      | false ↦ λ _. and-false (has_options options next)
    ] refl

found_there : (options : ℤ) (held : Rows) (name : Name) (row : Row) → AreNamed (get held) → AreChecked (get held) → get held name ≡ Some row
    → is_some (find (goes_back options name) (rows_past tables.Deck (pos 0) held)) ≡ has_options options row
found_there options held name row named checked is =
    elim (has_options options row) as (λ b. has_options options row ≡ b → is_some (find (goes_back options name) (rows_past tables.Deck (pos 0) held)) ≡ b) [
      | true ↦ λ has.
          let tied : eq_by_cmp name_cmp name (name_of row) ≡ true = ap (eq_by_cmp name_cmp name) (named name row is) ∙ ap is_eq (tied_itself names_total name) in
          let passes : goes_back options name row ≡ true = ap (λ b. b && eq_by_cmp name_cmp name (name_of row)) has ∙ tied in
          elim (find (goes_back options name) (rows_past tables.Deck (pos 0) held)) as (λ (x : Option Row). find (goes_back options name) (rows_past tables.Deck (pos 0) held) ≡ x → is_some x ≡ true) [
            | None ↦ λ none. false_true (sym (none_in_table (goes_back options name) tables.Deck held none name row is (deck_past options row name (named name row is) (checked name row is) has)) ∙ passes)
            | Some deck ↦ λ _. refl
          ] refl
      | false ↦ λ has. ap is_some (table_has_none (goes_back options name) tables.Deck held (λ other next there _. others_stay options held name other row next named is has there))
    ] refl

-- ---- every name
settled : (options : ℤ) (held : Rows) (name : Name) (x : Option Row) → AreNamed (get held) → AreChecked (get held) → get held name ≡ x
    → cond (is_some (find (goes_back options name) (rows_past tables.Deck (pos 0) held))) (option_map with_default x) x ≡ option_map (without_options options) x
settled options held name None named checked is =
    elim (is_some (find (goes_back options name) (rows_past tables.Deck (pos 0) held))) as (λ b. cond b (option_map with_default None) None ≡ option_map (without_options options) None) [ true ↦ refl | false ↦ refl ]
settled options held name (Some row) named checked is =
    ap (λ b. cond b (Some (with_default row)) (Some row)) (found_there options held name row named checked is)
    ∙ elim (has_options options row) as (λ b. cond b (Some (with_default row)) (Some row) ≡ Some (if b then with_default row else row)) [ true ↦ refl | false ↦ refl ]

-- the decks of a collection that were put ask that each row that has the options goes back
pub defaults_asked : (options : ℤ) (held : Rows) (name : Name) → AreNamed (get held) → AreChecked (get held)
    → row_over (put_defaults options (rows_past tables.Deck (pos 0) held) unchanged) (get held) name ≡ option_map (without_options options) (get held name)
defaults_asked options held name named checked =
    all_under options (get held) name (rows_past tables.Deck (pos 0) held) unchanged (table_held held tables.Deck (pos 0) named)
    ∙ ap (cond (is_some (find (goes_back options name) (rows_past tables.Deck (pos 0) held))) (option_map with_default (get held name))) (none_noted (get held) name)
    ∙ settled options held name (get held name) named checked refl

-- what is put says nothing besides rows
pub rest_defaults : (options : ℤ) (all : List Row) (o : Overlay) → rest_of (put_defaults options all o) ≡ rest_of o
rest_defaults options [] o = refl
rest_defaults options (row ∷ all) o =
    rest_defaults options all (put_default options row o)
    ∙ elim (has_options options row) as (λ b. rest_of (if b then put_over (with_default row) o else o) ≡ rest_of o) [ true ↦ refl | false ↦ refl ]

-- some rows, and then others
pub defaults-append : (options : ℤ) (one other : List Row) (o : Overlay) → put_defaults options (one ++ other) o ≡ put_defaults options other (put_defaults options one o)
defaults-append options [] other o = refl
defaults-append options (row ∷ one) other o = defaults-append options one other (put_default options row o)
