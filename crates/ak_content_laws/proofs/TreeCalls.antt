-- A deck that is deleted with its subtree leaves sound rows: each card that stays keeps its note, and each note that stays a card.
use Rattle.std.specs.Prelude.{◌≡◌, ◌&&◌, ◌||◌, ℕ, ℤ, Bool, true, false, not, List, [], ◌∷◌, Option, Some, option_and_then}
use Rattle.std.specs.List.{list_all}
use Rattle.std.specs.Ordering.{eq_by_cmp}
use Rattle.std.proofs.Common.{refl, sym, ap, ◌∙◌}
use Rattle.ak_base.specs.Names.{name_cmp}
use Rattle.ak_base.specs.Rows.{name_of}
use Rattle.ak_base.specs.declared.cards.Card.{Card}
use Rattle.ak_base.specs.declared.names.Name.{Name}
use Rattle.ak_base.specs.declared.names.Table.TheVariants as tables
use Rattle.ak_base.specs.declared.notes.Note.{Note}
use Rattle.ak_base.specs.declared.rows.Row.{Row}
use Rattle.ak_base.specs.declared.rows.Row.TheVariants as rows
use Rattle.ak_deck_trees.specs.DeckDeletions.{tree_deletion}
use Rattle.ak_deck_trees.specs.Trees.{are_in_tree, goes_with, is_card_in_tree, is_held_in_tree, is_in_tree}
use Rattle.ak_keep.proofs.RowsByName.{same_of_tied}
use Rattle.ak_keep.specs.Collections.{Collection, cards_of}
use Rattle.ak_keep.specs.Lookups.{as_card}
use Rattle.ak_merge.proofs.EditFacts.{false_true, true_false}
use Rattle.ak_merge.proofs.SoundLaws.{has_some}
use Rattle.ak_merge.specs.Holdings.{AreNamed, name_in, row_under}
use Rattle.ak_merge.specs.Soundness.{is_empty}
use Rattle.ak_notes.proofs.NoteCards.{names_card}
use Rattle.ak_content_laws.proofs.CardLists.{among_cards, and_false, card_among, first_among, later_among}
use Rattle.ak_content_laws.proofs.SoundParts.{is_in, swept_sound}
use Rattle.ak_content_laws.specs.SoundCalls.{IsSoundInRange}

-- ---- lists of ids
-- one of the ids fails the test, so not all meet it
one_fails : (test : ℤ → Bool) (cards : List ℤ) (id : ℤ) → names_card cards (name_in tables.Card id) ≡ true → test id ≡ false → list_all test cards ≡ false
one_fails test [] id among fails = false_true among
one_fails test (card ∷ cards) id among fails =
    elim (eq_by_cmp name_cmp (name_in tables.Card id) (name_in tables.Card card)) as (λ (b : Bool). eq_by_cmp name_cmp (name_in tables.Card id) (name_in tables.Card card) ≡ b
    → (b || names_card cards (name_in tables.Card id)) ≡ true → (test card && list_all test cards) ≡ false) [
      | true ↦ λ tied _.
          let same : id ≡ card = ap (λ (n : Name). n.id) (same_of_tied (name_in tables.Card id) (name_in tables.Card card) tied) in
          ap (λ (b : Bool). b && list_all test cards) (ap test (sym same) ∙ fails)
      | false ↦ λ _ rest. ap (λ (b : Bool). test card && b) (one_fails test cards id rest fails) ∙ and_false (test card)
    ] refl among

-- not all ids meet the test, so one of them fails it
some_fails : (test : ℤ → Bool) (cards : List ℤ) → list_all test cards ≡ false → (id : ℤ) × (test id ≡ false) × (names_card cards (name_in tables.Card id) ≡ true)
some_fails test [] all = true_false all
some_fails test (card ∷ cards) all =
    elim (test card) as (λ (b : Bool). test card ≡ b → (b && list_all test cards) ≡ false → (id : ℤ) × (test id ≡ false) × (names_card (card ∷ cards) (name_in tables.Card id) ≡ true)) [
      | true ↦ λ _ rest.
          let found = some_fails test cards rest in
          (found.0, found.1, later_among card found.0 cards found.2)
      | false ↦ λ fails _. (card, fails, first_among card cards)
    ] refl all

-- ---- the rows that go
module _ (root : List ℕ) (c : Collection) (named : AreNamed (row_under c)) (whole : IsSoundInRange (row_under c)) where
  abbrev in_tree : ℤ → Bool
  in_tree = is_card_in_tree root c.rows

  types : (row : Row) → is_in tables.NoteType (name_of row) ≡ true → goes_with root c.rows row ≡ false
  types (rows.Note x) is = false_true is
  types (rows.Card x) is = false_true is
  types (rows.Deck x) is = false_true is
  types (rows.Review x) is = refl
  types (rows.NoteType x) is = refl
  types (rows.Options x) is = refl
  types (rows.Grave x) is = refl

  noted : (card : Card) (note : Note) → row_under c (name_in tables.Card card.id) ≡ Some (rows.Card card) → is_in_tree root c.rows card.did ≡ false
      → row_under c (name_in tables.Note card.nid) ≡ Some (rows.Note note) → note.id ≡ card.nid → are_in_tree root c.rows (cards_of note.id c.rows) ≡ false
  noted card note is stays there own =
      let among : names_card (cards_of note.id c.rows) (name_in tables.Card card.id) ≡ true = among_cards c.rows note.id card named is (sym own) in
      let out : in_tree card.id ≡ false = ap (λ (x : Option Row). is_held_in_tree root c.rows (option_and_then as_card x)) is ∙ stays in
      ap (λ (b : Bool). not (is_empty (cards_of note.id c.rows)) && b) (one_fails in_tree (cards_of note.id c.rows) card.id among out)
      ∙ and_false (not (is_empty (cards_of note.id c.rows)))

  carded : (note : Note) → row_under c (name_in tables.Note note.id) ≡ Some (rows.Note note) → are_in_tree root c.rows (cards_of note.id c.rows) ≡ false
      → (card : Card) × (row_under c (name_in tables.Card card.id) ≡ Some (rows.Card card)) × (card.nid ≡ note.id) × (is_in_tree root c.rows card.did ≡ false)
  carded note is stays =
      let own = whole.sound.note_card note is in
      let some : is_empty (cards_of note.id c.rows) ≡ false = has_some c.rows note.id (name_in tables.Card own.0.id) own.0 own.1 own.2 in
      let found = some_fails in_tree (cards_of note.id c.rows) (sym (ap (λ (b : Bool). not b && list_all in_tree (cards_of note.id c.rows)) some) ∙ stays) in
      let card = card_among c.rows note.id found.0 named found.2 in
      let id : name_in tables.Card card.0.id ≡ name_in tables.Card found.0 = named (name_in tables.Card found.0) (rows.Card card.0) card.1 in
      (card.0, ap (row_under c) id ∙ card.1, card.2, sym (ap (λ (x : Option Row). is_held_in_tree root c.rows (option_and_then as_card x)) card.1) ∙ found.1)

  pub tree_deletion_sound : IsSoundInRange (tree_deletion root c).rows
  tree_deletion_sound = swept_sound (row_under c) (goes_with root c.rows) named (record { types = types; notes = noted; cards = carded }) whole
