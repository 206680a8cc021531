-- Edits that leave notes, cards and types alike, for what soundness asks of them.
use Rattle.std.specs.Prelude.{◌≡◌, ℤ, Bool, true, false, cond, List, [], ◌∷◌, Option, Some, None}
use Rattle.std.specs.Option.{option_map}
use Rattle.std.specs.Ordering.{eq_by_cmp}
use Rattle.std.proofs.Common.{refl, sym, ap, ◌∙◌}
use Rattle.ak_base.specs.Names.{name_cmp}
use Rattle.ak_base.specs.Rows.{name_of}
use Rattle.ak_base.specs.declared.cards.Card.{Card}
use Rattle.ak_base.specs.declared.decks.Deck.{Deck}
use Rattle.ak_base.specs.declared.names.Name.{Name}
use Rattle.ak_base.specs.declared.rows.Row.{Row}
use Rattle.ak_base.specs.declared.rows.Row.TheVariants as rows
use Rattle.ak_edit_calls.specs.CardEdits.{changed_if}
use Rattle.ak_deck_paths.specs.ChangedDecks.{with_decks}
use Rattle.ak_keep.proofs.RowsByName.{same_of_tied}
use Rattle.ak_keep.specs.Graves.{RowsByName}
use Rattle.ak_merge.specs.EditBuilding.{with_row}
use Rattle.ak_merge.specs.Edits.{Edit}
use Rattle.ak_content_laws.proofs.Shapes.{AreAlike, all_alike, alike_through, shape}

-- ---- rows that are mapped
-- each row that is held keeps its shape
pub mapped_held : (at : RowsByName) (change : Row → Row) → ((name : Name) (row : Row) → at name ≡ Some row → shape (Some (change row)) ≡ shape (Some row))
    → AreAlike at (λ name. option_map change (at name))
mapped_held at change keeps = all_alike at (λ name. option_map change (at name)) (λ name. one name (at name) refl)
  where
    one : (name : Name) (x : Option Row) → at name ≡ x → shape x ≡ shape (option_map change x)
    one name None is = refl
    one name (Some row) is = sym (keeps name row is)

-- each row keeps its shape
pub mapped_alike : (at : RowsByName) (change : Row → Row) → ((row : Row) → shape (Some (change row)) ≡ shape (Some row)) → AreAlike at (λ name. option_map change (at name))
mapped_alike at change keeps = mapped_held at change (λ name row _. keeps row)

-- ---- cards that change
-- a change of cards that leaves their notes and ords
abbrev pub KeepsPlace : (Card → Card) → Type 0
KeepsPlace change = (card : Card) → shape (Some (rows.Card (change card))) ≡ shape (Some (rows.Card card))

pub place_if : (b : Bool) (x y card : Card) → shape (Some (rows.Card x)) ≡ shape (Some (rows.Card card)) → shape (Some (rows.Card y)) ≡ shape (Some (rows.Card card))
    → shape (Some (rows.Card (cond b x y))) ≡ shape (Some (rows.Card card))
place_if true x y card one other = one
place_if false x y card one other = other

pub changed_shape : (test : ℤ → Bool) (change : Card → Card) → KeepsPlace change → (row : Row) → shape (Some (changed_if test change row)) ≡ shape (Some row)
changed_shape test change keeps (rows.Card card) = place_if (test card.id) (change card) card card (keeps card) refl
changed_shape test change keeps (rows.Note note) = refl
changed_shape test change keeps (rows.Review review) = refl
changed_shape test change keeps (rows.NoteType note_type) = refl
changed_shape test change keeps (rows.Deck deck) = refl
changed_shape test change keeps (rows.Options options) = refl
changed_shape test change keeps (rows.Grave grave) = refl

-- ---- rows that are put
-- a row in place of one of its shape
pub row_alike : (row : Row) (edit : Edit) → shape (edit.rows (name_of row)) ≡ shape (Some row) → AreAlike edit.rows (with_row row edit).rows
row_alike row edit same = all_alike edit.rows (with_row row edit).rows (λ name.
    elim (eq_by_cmp name_cmp name (name_of row)) as (λ b. eq_by_cmp name_cmp name (name_of row) ≡ b → shape (edit.rows name) ≡ shape (cond b (Some row) (edit.rows name))) [
      | true ↦ λ tied. ap (λ (n : Name). shape (edit.rows n)) (same_of_tied name (name_of row) tied) ∙ same
      | false ↦ λ _. refl
    ] refl)

pub deck_alike : (deck : Deck) (edit : Edit) → AreAlike edit.rows (with_row (rows.Deck deck) edit).rows
deck_alike deck edit = record { card = λ id. refl; note = λ id. refl; type = λ id. refl }

pub decks_alike : (decks : List Deck) (edit : Edit) → AreAlike edit.rows (with_decks decks edit).rows
decks_alike [] edit = record { card = λ id. refl; note = λ id. refl; type = λ id. refl }
decks_alike (deck ∷ decks) edit =
    alike_through edit.rows (with_row (rows.Deck deck) edit).rows (with_decks decks (with_row (rows.Deck deck) edit)).rows (deck_alike deck edit)
    (decks_alike decks (with_row (rows.Deck deck) edit))
