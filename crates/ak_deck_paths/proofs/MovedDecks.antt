-- What the decks of a subtree with their new paths ask for.
use Rattle.std.specs.Prelude.{◌≡◌, ℕ, pos, Bool, true, false, cond, if◌then◌else◌, List, [], ◌∷◌, filter, map}
use Rattle.std.proofs.Common.{refl, ap, subst, ◌∙◌}
use Rattle.std.proofs.Math.Path.{fun_ext}
use Rattle.std.specs.FinMap.{get}
use Rattle.std.specs.List.{filter_map}
use Rattle.std.specs.Option.{option_map}
use Rattle.ak_base.specs.Rows.{IsChecked, name_of}
use Rattle.ak_base.specs.RowsOfOneKind.{on_deck}
use Rattle.ak_base.specs.declared.decks.Deck.{Deck}
use Rattle.ak_base.specs.declared.names.Name.{Name}
use Rattle.ak_base.specs.declared.names.Table.TheVariants as tables
use Rattle.ak_base.specs.declared.rows.Row.{Row}
use Rattle.ak_base.specs.declared.rows.Row.TheVariants as rows
use Rattle.ak_edit_calls.proofs.Overlaying.{edit_by_names, rest_of}
use Rattle.ak_edit.specs.Overlays.{Overlay, edit_of, put_over, row_over, unchanged}
use Rattle.ak_keep.specs.Collections.{Collection, Rows, is_past, rows_past}
use Rattle.ak_keep.specs.Lookups.{as_deck, decks_in}
use Rattle.ak_merge.proofs.EditFacts.{false_true}
use Rattle.ak_merge.proofs.Finding.{id_over_zero}
use Rattle.ak_merge.specs.EditBuilding.{unedited, with_rows_mapped}
use Rattle.ak_merge.specs.Holdings.{AreChecked, AreNamed, row_under}
use Rattle.ak_deck_paths.proofs.ChangedRows.{changed_asked, changed_by, put_all, rest_put}
use Rattle.ak_deck_paths.proofs.PuttingDecks.{decks_asked}
use Rattle.ak_deck_paths.specs.ChangedDecks.{decks_over, with_decks}
use Rattle.ak_deck_paths.specs.DeckPaths.{is_under, moved_deck, moved_decks, renamed}
use Rattle.ak_deck_paths.specs.Renames.{renaming}

-- whether a row is a deck of the subtree
abbrev moves : List ℕ → Row → Bool
moves old (rows.Deck deck) = is_under old deck
moves old (rows.Note note) = false
moves old (rows.Card card) = false
moves old (rows.Review review) = false
moves old (rows.NoteType note_type) = false
moves old (rows.Options options) = false
moves old (rows.Grave grave) = false

-- the row with its new path, if it is a deck
abbrev moved : List ℕ → List ℕ → Row → Row
moved old new = on_deck (moved_deck old new)

moved_named : (old new : List ℕ) (row : Row) → name_of (moved old new row) ≡ name_of row
moved_named old new (rows.Deck deck) = refl
moved_named old new (rows.Note note) = refl
moved_named old new (rows.Card card) = refl
moved_named old new (rows.Review review) = refl
moved_named old new (rows.NoteType note_type) = refl
moved_named old new (rows.Options options) = refl
moved_named old new (rows.Grave grave) = refl

decks_move : (old : List ℕ) (row : Row) (name : Name) → name_of row ≡ name → IsChecked row → moves old row ≡ true → is_past tables.Deck (pos 0) name ≡ true
decks_move old (rows.Deck deck) name named checked is = subst (λ (n : Name). is_past tables.Deck (pos 0) n ≡ true) named (id_over_zero (rows.Deck deck) checked)
decks_move old (rows.Note note) name named checked is = false_true is
decks_move old (rows.Card card) name named checked is = false_true is
decks_move old (rows.Review review) name named checked is = false_true is
decks_move old (rows.NoteType note_type) name named checked is = false_true is
decks_move old (rows.Options options) name named checked is = false_true is
decks_move old (rows.Grave grave) name named checked is = false_true is

-- a row that is changed if it moves is renamed
deck_renamed : (old new : List ℕ) (deck : Deck) (under : Bool) → (if under then rows.Deck (moved_deck old new deck) else rows.Deck deck) ≡ rows.Deck (if under then moved_deck old new deck else deck)
deck_renamed old new deck true = refl
deck_renamed old new deck false = refl

is_renamed : (old new : List ℕ) (row : Row) → changed_by (moves old) (moved old new) row ≡ renamed old new row
is_renamed old new (rows.Deck deck) = deck_renamed old new deck (is_under old deck)
is_renamed old new (rows.Note note) = refl
is_renamed old new (rows.Card card) = refl
is_renamed old new (rows.Review review) = refl
is_renamed old new (rows.NoteType note_type) = refl
is_renamed old new (rows.Options options) = refl
is_renamed old new (rows.Grave grave) = refl

-- ---- the decks that are put are the rows that move
by_rows : (old new : List ℕ) (all : List Row) (o : Overlay) → decks_over (moved_decks old new (filter_map as_deck all)) o ≡ put_all (moves old) (moved old new) all o
by_rows old new [] o = refl
by_rows old new (rows.Deck deck ∷ all) o =
    let others : List Deck = filter (is_under old) (filter_map as_deck all) in
    elim (is_under old deck) as (λ b. decks_over (map (moved_deck old new) (cond b (deck ∷ others) others)) o ≡ put_all (moves old) (moved old new) all (if b then put_over (rows.Deck (moved_deck old new deck)) o else o)) [
      | true ↦ by_rows old new all (put_over (rows.Deck (moved_deck old new deck)) o)
      | false ↦ by_rows old new all o
    ]
by_rows old new (rows.Note note ∷ all) o = by_rows old new all o
by_rows old new (rows.Card card ∷ all) o = by_rows old new all o
by_rows old new (rows.Review review ∷ all) o = by_rows old new all o
by_rows old new (rows.NoteType note_type ∷ all) o = by_rows old new all o
by_rows old new (rows.Options options ∷ all) o = by_rows old new all o
by_rows old new (rows.Grave grave ∷ all) o = by_rows old new all o

-- ---- what they ask for
under_name : (old new : List ℕ) (held : Rows) (name : Name) → AreNamed (get held) → AreChecked (get held)
    → row_over (decks_over (moved_decks old new (decks_in held)) unchanged) (get held) name ≡ option_map (renamed old new) (get held name)
under_name old new held name named checked =
    ap (λ (o : Overlay). row_over o (get held) name) (by_rows old new (rows_past tables.Deck (pos 0) held) unchanged)
    ∙ changed_asked (moves old) (moved old new) tables.Deck held name (moved_named old new) (decks_move old) named checked
    ∙ ap (λ (f : Row → Row). option_map f (get held name)) (fun_ext (is_renamed old new))

rest_moved : (old new : List ℕ) (held : Rows) → rest_of (decks_over (moved_decks old new (decks_in held)) unchanged) ≡ rest_of unchanged
rest_moved old new held =
    ap rest_of (by_rows old new (rows_past tables.Deck (pos 0) held) unchanged)
    ∙ rest_put (moves old) (moved old new) (rows_past tables.Deck (pos 0) held) unchanged

moved_asked : (old new : List ℕ) (c : Collection) → AreNamed (row_under c) → AreChecked (row_under c)
    → edit_of (decks_over (moved_decks old new (decks_in c.rows)) unchanged) c ≡ with_rows_mapped (renamed old new) (unedited c)
moved_asked old new c named checked =
    edit_by_names (decks_over (moved_decks old new (decks_in c.rows)) unchanged) c (λ (name : Name). option_map (renamed old new) (row_under c name)) (rest_moved old new c.rows)
    (λ (name : Name). under_name old new c.rows name named checked)

-- the decks that move, and then those that are made, ask for the rule's edit
pub renaming_asked : (old new : List ℕ) (made : List Deck) (c : Collection) → AreNamed (row_under c) → AreChecked (row_under c)
    → edit_of (decks_over made (decks_over (moved_decks old new (decks_in c.rows)) unchanged)) c ≡ renaming old new made c
renaming_asked old new made c named checked =
    decks_asked made (decks_over (moved_decks old new (decks_in c.rows)) unchanged) c ∙ ap (with_decks made) (moved_asked old new c named checked)
