-- After a rename each deck of the subtree stands under its new path, and every other deck as it was.
use Rattle.std.specs.Prelude.{◌≡◌, ◌&&◌, ◌⊎◌, ◌++◌, ℕ, ℤ, Bool, true, false, cond, List, [], ◌∷◌, drop, length, Option, Some, None, option_and_then}
use Rattle.std.specs.Cmp.Lexicographic.{bytes_decides}
use Rattle.std.specs.Option.{option_map, option_map_or}
use Rattle.std.specs.Ordering.{eq_by_cmp}
use Rattle.std.proofs.Common.{append-nil, arith, drop_of_length-le, inl, inr, refl, sym, ap, ◌∙◌}
use Rattle.std.proofs.lemmas.Option.{same_Some}
use Rattle.ak_base.specs.Names.{name_cmp, next_name}
use Rattle.ak_base.specs.Paths.{are_first_parts, is_in_subtree, parts_of}
use Rattle.ak_base.specs.Rows.{name_of}
use Rattle.ak_base.specs.declared.decks.Deck.{Deck}
use Rattle.ak_base.specs.declared.names.Name.{Name}
use Rattle.ak_base.specs.declared.names.Table.TheVariants as tables
use Rattle.ak_base.specs.declared.rows.Row.{Row}
use Rattle.ak_base.specs.declared.rows.Row.TheVariants as rows
use Rattle.ak_edit_calls.specs.NewNames.{AreMadeOf, first_name}
use Rattle.ak_deck_paths.specs.ChangedDecks.{with_decks}
use Rattle.ak_edit_calls.specs.DeckPaths.{path_at, path_of}
use Rattle.ak_deck_paths.specs.DeckPaths.{is_under, missing_above, moved_deck, renamed}
use Rattle.ak_deck_paths.specs.NewDecks.{IsNewDeck}
use Rattle.ak_deck_paths.specs.Renames.{IsMoved, renaming}
use Rattle.ak_keep.specs.Collections.{Collection}
use Rattle.ak_keep.specs.FreeNames.{is_used}
use Rattle.ak_keep.specs.Keepers.{Keeping}
use Rattle.ak_keep.specs.Lookups.{as_deck, deck_at, decks_in}
use Rattle.ak_merge.proofs.EditFacts.{none_held}
use Rattle.ak_merge.specs.EditBuilding.{unedited, with_row, with_rows_mapped}
use Rattle.ak_merge.specs.Edits.{Edit, edited_row, second_of}
use Rattle.ak_merge.specs.Holdings.{name_in, row_under}
use Rattle.ak_undo.specs.declared.steps.Step.{Step}
use Rattle.ak_content_laws.proofs.LeftRows.{deck_left, left_same}
use Rattle.ak_content_laws.proofs.NewCards.{free_none}
use Rattle.ak_content_laws.proofs.SoundParts.{put_cases}
use Rattle.ak_content_laws.specs.KeptContents.{MovesDecks}

found_deck : (x : Option Row) (deck : Deck) → option_and_then as_deck x ≡ Some deck → x ≡ Some (rows.Deck deck)
found_deck None deck is = none_held is
found_deck (Some (rows.Deck d)) deck is = ap (λ (k : Deck). Some (rows.Deck k)) (same_Some d deck is)
found_deck (Some (rows.Note x)) deck is = none_held is
found_deck (Some (rows.Card x)) deck is = none_held is
found_deck (Some (rows.Review x)) deck is = none_held is
found_deck (Some (rows.NoteType x)) deck is = none_held is
found_deck (Some (rows.Options x)) deck is = none_held is
found_deck (Some (rows.Grave x)) deck is = none_held is

-- decks that are made leave one that is held
decks_leave : (c : Collection) (id : ℤ) (deck : Deck) → row_under c (name_in tables.Deck id) ≡ Some (rows.Deck deck) → (first : Name) (paths : List (List ℕ)) (decks : List Deck) (edit : Edit) → first.table ≡ tables.Deck
    → AreMadeOf (is_used (row_under c)) IsNewDeck first paths decks → (with_decks decks edit).rows (name_in tables.Deck id) ≡ edit.rows (name_in tables.Deck id)
decks_leave c id deck held first [] decks edit of are = ap (λ (l : List Deck). (with_decks l edit).rows (name_in tables.Deck id)) are
decks_leave c id deck held first (path ∷ paths) decks edit of are =
    ap (λ (l : List Deck). (with_decks l edit).rows (name_in tables.Deck id)) are.5
    ∙ decks_leave c id deck held (next_name are.0) paths are.4 (with_row (rows.Deck are.2) edit) (are.1.table ∙ of) are.6
    ∙ by (put_cases (rows.Deck are.2) edit (name_in tables.Deck id))
  where
    by : ((name_in tables.Deck id ≡ name_of (rows.Deck are.2)) × ((with_row (rows.Deck are.2) edit).rows (name_in tables.Deck id) ≡ Some (rows.Deck are.2)))
        ⊎ ((eq_by_cmp name_cmp (name_in tables.Deck id) (name_of (rows.Deck are.2)) ≡ false) × ((with_row (rows.Deck are.2) edit).rows (name_in tables.Deck id) ≡ edit.rows (name_in tables.Deck id)))
        → (with_row (rows.Deck are.2) edit).rows (name_in tables.Deck id) ≡ edit.rows (name_in tables.Deck id)
    by (inl put) =
        none_held (sym (free_none (row_under c) are.0 tables.Deck (are.1.table ∙ of) are.1.free)
        ∙ ap (λ (i : ℤ). row_under c (name_in tables.Deck i)) (sym are.3.id) ∙ ap (row_under c) (sym put.0) ∙ held)
    by (inr was) = was.1

module _ (at : ℤ) (old new : List ℕ) (c : Collection) (before now : Keeping) (steps left : List Step) (is : IsMoved at old new c before now steps left) where
  abbrev moved : Edit
  moved = with_rows_mapped (renamed old new) (unedited c)

  asked : (id : ℤ) (deck : Deck) → row_under c (name_in tables.Deck id) ≡ Some (rows.Deck deck)
      → (renaming old new is.made c).rows (name_in tables.Deck id) ≡ Some (rows.Deck (cond (is_under old deck) (moved_deck old new deck) deck))
  asked id deck held =
      decks_leave c id deck held (first_name tables.Deck at) (missing_above (decks_in c.rows) new) is.made moved refl is.are ∙ ap (option_map (renamed old new)) held

  pub moves_decks : MovesDecks old new c is.done.after
  moves_decks = record {
    moved = λ id deck there under.
        let held = found_deck (row_under c (name_in tables.Deck id)) deck there in
        let own = deck_left (second_of at) (row_under c (name_in tables.Deck id)) (moved_deck old new deck) in (
          own.0,
          ap (option_and_then as_deck) (is.done.edited.rows (name_in tables.Deck id)
              ∙ ap (edited_row (second_of at) (row_under c (name_in tables.Deck id))) (asked id deck held ∙ ap (λ (b : Bool). Some (rows.Deck (cond b (moved_deck old new deck) deck))) under) ∙ own.1),
          own.2,
        );
    others = λ id deck there outside.
        let held = found_deck (row_under c (name_in tables.Deck id)) deck there in
        ap (option_and_then as_deck) (is.done.edited.rows (name_in tables.Deck id)
        ∙ ap (edited_row (second_of at) (row_under c (name_in tables.Deck id))) (asked id deck held ∙ ap (λ (b : Bool). Some (rows.Deck (cond b (moved_deck old new deck) deck))) outside ∙ sym held)
        ∙ left_same (second_of at) (row_under c (name_in tables.Deck id)) ∙ held);
  }

-- ---- the deck itself
first_parts_itself : (parts : List (List ℕ)) → are_first_parts parts parts ≡ true
first_parts_itself [] = refl
first_parts_itself (part ∷ parts) = ap (λ (b : Bool). b && are_first_parts parts parts) ((bytes_decides part part).1 refl) ∙ first_parts_itself parts

pub own_path : (at deck : ℤ) (path : List ℕ) (c : Collection) (before now : Keeping) (steps left : List Step) (was : Deck) → deck_at c.rows deck ≡ Some was
    → (is : IsMoved at (path_at c.rows deck) path c before now steps left) → (own : Deck) × (deck_at is.done.after.rows deck ≡ Some own) × (own.name ≡ path)
own_path at deck path c before now steps left was there is =
    let held = found_deck (row_under c (name_in tables.Deck deck)) was there in
    let old : path_at c.rows deck ≡ was.name = ap (λ (x : Option Row). option_map_or path_of x []) held in
    let under : is_in_subtree (path_at c.rows deck) was.name ≡ true = ap (λ (p : List ℕ). is_in_subtree p was.name) old ∙ first_parts_itself (parts_of was.name) in
    let own = (moves_decks at (path_at c.rows deck) path c before now steps left is).moved deck was there under in
    let rest : drop (length (path_at c.rows deck)) was.name ≡ [] = ap (λ (p : List ℕ). drop (length p) was.name) old ∙ drop_of_length-le was.name (omega arith) in
    (own.0, own.1, own.2 ∙ ap (λ (p : List ℕ). path ++ p) rest ∙ append-nil path)
