-- Edits that make decks, or move a subtree, are admitted.
use Rattle.std.specs.Prelude.{◌≡◌, ℕ, ℤ, Bool, true, false, if◌then◌else◌, List, [], ◌∷◌}
use Rattle.std.proofs.Common.{refl, sym, subst, ◌∙◌}
use Rattle.ak_base.specs.Rows.{name_of}
use Rattle.ak_base.specs.declared.decks.Deck.{Deck}
use Rattle.ak_base.specs.declared.names.Name.{Name}
use Rattle.ak_base.specs.declared.names.Table.TheVariants as tables
use Rattle.ak_base.specs.declared.rows.Row.{Row}
use Rattle.ak_base.specs.declared.rows.Row.TheVariants as rows
use Rattle.ak_keep.specs.FreeNames.{IsFree, is_used}
use Rattle.ak_edit_calls.proofs.FreeIds.{not_dead}
use Rattle.ak_edit_calls.specs.NewNames.{AreMadeOf, first_name}
use Rattle.ak_keep.specs.Collections.{Collection}
use Rattle.ak_merge.proofs.EditBuildingLaws.{maps_are_admitted, puts_are_admitted, unedited_is_admitted}
use Rattle.ak_merge.specs.EditBuilding.{MayMap, MayPut, unedited, with_row, with_rows_mapped}
use Rattle.ak_merge.specs.Edits.{Admits, Edit}
use Rattle.ak_keep.specs.Graves.{is_dead}
use Rattle.ak_merge.specs.Holdings.{AreNamed, name_in, row_under}
use Rattle.ak_deck_paths.specs.Additions.{AreAdded, added_paths, addition}
use Rattle.ak_deck_paths.specs.ChangedDecks.{with_decks}
use Rattle.ak_keep.specs.Lookups.{decks_in}
use Rattle.ak_deck_paths.specs.DeckPaths.{is_under, missing_above, moved_deck, renamed}
use Rattle.ak_base.specs.Names.{next_name}
use Rattle.ak_deck_paths.specs.NewDecks.{IsNewDeck}
use Rattle.ak_deck_paths.specs.Renames.{AreMadeAbove, renaming}

deck_may : (c : Collection) (path : List ℕ) (deck : Deck) (first name : Name) → first.table ≡ tables.Deck → IsFree (is_used (row_under c)) first name → IsNewDeck path name.id deck → MayPut c (rows.Deck deck)
deck_may c path deck first name of free is = record {
  free = λ none. subst (λ (id : ℤ). is_dead (row_under c) (name_in tables.Deck id) ≡ false) (sym is.id) (not_dead (row_under c) first name tables.Deck of free);
  review = λ is. absurd (cc);
}

decks_are_admitted : (c : Collection) (first : Name) (paths : List (List ℕ)) (made : List Deck) (edit : Edit) → first.table ≡ tables.Deck
    → AreMadeOf (is_used (row_under c)) IsNewDeck first paths made → Admits c edit → Admits c (with_decks made edit)
decks_are_admitted c first [] made edit of are admits = subst (λ (ds : List Deck). Admits c (with_decks ds edit)) (sym are) admits
decks_are_admitted c first (path ∷ paths) made edit of are admits =
    let name : Name = are.0 in
    let one : Admits c (with_row (rows.Deck are.2) edit) = puts_are_admitted c edit (rows.Deck are.2) admits (deck_may c path are.2 first name of are.1 are.3) in
    subst (λ (ds : List Deck). Admits c (with_decks ds edit)) (sym are.5)
    (decks_are_admitted c (next_name name) paths are.4 (with_row (rows.Deck are.2) edit) (are.1.table ∙ of) are.6 one)

pub deck_additions_are_admitted : (at : ℤ) (path : List ℕ) (made : List Deck) (c : Collection) → AreNamed (row_under c) → AreAdded at path c.rows made → Admits c (addition made c)
deck_additions_are_admitted at path made c named are =
    decks_are_admitted c (first_name tables.Deck at) (added_paths (decks_in c.rows) path) made (unedited c) refl are (unedited_is_admitted c named)

-- ---- a subtree that moves
deck_named : (old new : List ℕ) (deck : Deck) (under : Bool) → name_of (rows.Deck (if under then moved_deck old new deck else deck)) ≡ name_of (rows.Deck deck)
deck_named old new deck true = refl
deck_named old new deck false = refl

pub renamed_named : (old new : List ℕ) (row : Row) → name_of (renamed old new row) ≡ name_of row
renamed_named old new (rows.Deck deck) = deck_named old new deck (is_under old deck)
renamed_named old new (rows.Note note) = refl
renamed_named old new (rows.Card card) = refl
renamed_named old new (rows.Review review) = refl
renamed_named old new (rows.NoteType note_type) = refl
renamed_named old new (rows.Options options) = refl
renamed_named old new (rows.Grave grave) = refl

review_stays : (old new : List ℕ) (row : Row) → (name_of row).table ≡ tables.Review → renamed old new row ≡ row
review_stays old new (rows.Deck deck) is = absurd (cc)
review_stays old new (rows.Note note) is = refl
review_stays old new (rows.Card card) is = refl
review_stays old new (rows.Review review) is = refl
review_stays old new (rows.NoteType note_type) is = refl
review_stays old new (rows.Options options) is = refl
review_stays old new (rows.Grave grave) is = refl

may_rename : (old new : List ℕ) → MayMap (renamed old new)
may_rename old new = record { name = renamed_named old new; review = review_stays old new }

pub deck_renames_are_admitted : (at : ℤ) (old new : List ℕ) (made : List Deck) (c : Collection) → AreNamed (row_under c) → AreMadeAbove at new c.rows made → Admits c (renaming old new made c)
deck_renames_are_admitted at old new made c named are =
    decks_are_admitted c (first_name tables.Deck at) (missing_above (decks_in c.rows) new) made (with_rows_mapped (renamed old new) (unedited c)) refl are
    (maps_are_admitted c (unedited c) (renamed old new) (unedited_is_admitted c named) (may_rename old new))
