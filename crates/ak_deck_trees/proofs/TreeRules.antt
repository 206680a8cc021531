-- What the removals of a subtree's rows ask for.
use Rattle.std.specs.Prelude.{◌≡◌, ℕ, pos, Bool, true, false, ◌&&◌, cond, int_lt, if◌then◌else◌, List, Option, Some, None}
use Rattle.std.proofs.Common.{refl, ap, subst, ◌∙◌}
use Rattle.std.proofs.lemmas.Option.{none-some}
use Rattle.std.specs.FinMap.{get}
use Rattle.std.specs.Option.{option_and_then}
use Rattle.ak_base.specs.Rows.{name_of}
use Rattle.ak_base.specs.declared.names.Name.{Name}
use Rattle.ak_base.specs.declared.names.Table.{Table}
use Rattle.ak_base.specs.declared.names.Table.TheVariants as tables
use Rattle.ak_base.specs.declared.rows.Row.{Row}
use Rattle.ak_base.specs.declared.rows.Row.TheVariants as rows
use Rattle.ak_edit_calls.proofs.CheckedEdits.{checked_edits_pass}
use Rattle.ak_edit_calls.proofs.Overlaying.{edit_by_names, none_noted, rest_of}
use Rattle.ak_deck_trees.proofs.SweptRows.{goes_in, goes_in_is, names_gone, rest_swept, swept_under}
use Rattle.ak_deck_trees.specs.DeckDeletions.{tree_deletion, without_rows_of, without_tree}
use Rattle.ak_deck_trees.specs.Trees.{goes_with}
use Rattle.ak_edit.specs.Ends.{IsHeldRightly, RefusesRow}
use Rattle.ak_edit.specs.Overlays.{Overlay, edit_of, row_over, unchanged}
use Rattle.ak_edit.specs.declared.desk_faults.DeskFault.{DeskFault}
use Rattle.ak_keep.specs.Collections.{Collection, Rows, is_past, rows_past}
use Rattle.ak_merge.proofs.Finding.{id_over_zero}
use Rattle.ak_keep.specs.Graves.{RowsByName}
use Rattle.ak_merge.specs.Holdings.{AreChecked, AreNamed, row_under}

-- what is left of a row
abbrev kept : (Row → Bool) → Row → Option Row
kept gone row = if gone row then None else Some row

-- what is left of a row after its table's turn, among the tables of notes, cards and decks
abbrev turns : (Row → Bool) → Name → Option Row → Option Row → Option Row
turns gone name held x =
    cond (goes_in gone tables.Note name held) None (cond (goes_in gone tables.Card name held) None (cond (goes_in gone tables.Deck name held) None x))

none_goes : (a b d : Bool) (x : Option Row) → cond (a && false) None (cond (b && false) None (cond (d && false) None x)) ≡ x
none_goes true true true x = refl
none_goes true true false x = refl
none_goes true false true x = refl
none_goes true false false x = refl
none_goes false true true x = refl
none_goes false true false x = refl
none_goes false false true x = refl
none_goes false false false x = refl

-- each row has its turn once
one_turn : (root : List ℕ) (held : Rows) (row : Row) → int_lt (pos 0) (name_of row).id ≡ true
    → turns (goes_with root held) (name_of row) (Some row) (Some row) ≡ kept (goes_with root held) row
one_turn root held (rows.Note note) over = ap (λ b. cond (b && goes_with root held (rows.Note note)) None (Some (rows.Note note))) over
one_turn root held (rows.Card card) over = ap (λ b. cond (b && goes_with root held (rows.Card card)) None (Some (rows.Card card))) over
one_turn root held (rows.Deck deck) over = ap (λ b. cond (b && goes_with root held (rows.Deck deck)) None (Some (rows.Deck deck))) over
one_turn root held (rows.Review review) over = refl
one_turn root held (rows.NoteType note_type) over = refl
one_turn root held (rows.Options options) over = refl
one_turn root held (rows.Grave grave) over =
    let name : Name = name_of (rows.Grave grave) in
    none_goes (is_past tables.Note (pos 0) name) (is_past tables.Card (pos 0) name) (is_past tables.Deck (pos 0) name) (Some (rows.Grave grave))

all_turns : (root : List ℕ) (held : Rows) (name : Name) (x : Option Row) → ((row : Row) → x ≡ Some row → name_of row ≡ name)
    → ((row : Row) → x ≡ Some row → int_lt (pos 0) (name_of row).id ≡ true) → turns (goes_with root held) name x x ≡ option_and_then (kept (goes_with root held)) x
all_turns root held name None named over = refl
all_turns root held name (Some row) named over =
    subst (λ (n : Name). turns (goes_with root held) n (Some row) (Some row) ≡ kept (goes_with root held) row) (named row refl) (one_turn root held row (over row refl))

-- one table's turn
turn_under : (root : List ℕ) (table : Table) (held : Rows) (o : Overlay) (name : Name) → AreNamed (get held)
    → row_over (without_rows_of root table held o) (get held) name ≡ cond (goes_in (goes_with root held) table name (get held name)) None (row_over o (get held) name)
turn_under root table held o name named =
    swept_under (goes_with root held) (rows_past table (pos 0) held) o (get held) name
    ∙ ap (λ b. cond b None (row_over o (get held) name)) (goes_in_is (goes_with root held) table held name named)

tree_under : (root : List ℕ) (held : Rows) (name : Name) → AreNamed (get held) → AreChecked (get held)
    → row_over (without_tree root held unchanged) (get held) name ≡ option_and_then (kept (goes_with root held)) (get held name)
tree_under root held name named checked =
    let gone = goes_with root held in
    let x : Option Row = get held name in
    let decks : Overlay = without_rows_of root tables.Deck held unchanged in
    let cards : Overlay = without_rows_of root tables.Card held decks in
    turn_under root tables.Note held cards name named
    ∙ ap (cond (goes_in gone tables.Note name x) None) (turn_under root tables.Card held decks name named
    ∙ ap (cond (goes_in gone tables.Card name x) None) (turn_under root tables.Deck held unchanged name named
    ∙ ap (cond (goes_in gone tables.Deck name x) None) (none_noted (get held) name)))
    ∙ all_turns root held name x (named name) (λ row is. id_over_zero row (checked name row is))

rest_tree : (root : List ℕ) (held : Rows) → rest_of (without_tree root held unchanged) ≡ rest_of unchanged
rest_tree root held =
    let gone = goes_with root held in
    let decks : Overlay = without_rows_of root tables.Deck held unchanged in
    let cards : Overlay = without_rows_of root tables.Card held decks in
    rest_swept gone (rows_past tables.Note (pos 0) held) cards
    ∙ rest_swept gone (rows_past tables.Card (pos 0) held) decks
    ∙ rest_swept gone (rows_past tables.Deck (pos 0) held) unchanged

-- what the changes ask for is the rule's edit
pub tree_deletion_of : (c : Collection) (root : List ℕ) (o : Overlay) → AreNamed (row_under c) → AreChecked (row_under c) → o ≡ without_tree root c.rows unchanged
    → edit_of o c ≡ tree_deletion root c
tree_deletion_of c root o named checked is =
    edit_by_names o c (λ name. option_and_then (kept (goes_with root c.rows)) (row_under c name))
    (ap rest_of is ∙ rest_tree root c.rows)
    (λ name. ap (λ (p : Overlay). row_over p (row_under c) name) is ∙ tree_under root c.rows name named checked)

-- ---- no row is made
left_there : (gone : Row → Bool) (x : Option Row) (row : Row) → option_and_then (kept gone) x ≡ Some row → x ≡ Some row
left_there gone None row is = absurd (none-some row is)
left_there gone (Some r) row is =
    elim (gone r) as (λ b. (if b then None else Some r) ≡ Some row → Some r ≡ Some row) [ true ↦ λ e. absurd (none-some row e) | false ↦ λ e. e ] is

-- its end never refuses a row
pub tree_deletion_rows : (c : Collection) (root : List ℕ) (fault : DeskFault) → AreChecked (row_under c) → RefusesRow c (tree_deletion root c) fault → ⊥
tree_deletion_rows c root fault checked =
    checked_edits_pass c (tree_deletion root c) fault (λ name row is. checked name row (left_there (goes_with root c.rows) (row_under c name) row is))
