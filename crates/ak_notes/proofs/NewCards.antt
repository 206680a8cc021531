-- New cards: there is one way to make them, and what is refused of their ords is refused of the note.
use Rattle.std.specs.Prelude.{◌≡◌, ℕ, ℤ, pos, ◌+ℤ◌, Bool, List, [], ◌∷◌, ◌++◌, Result, Ok, Err}
use Rattle.std.proofs.Common.{refl, sym, ap, subst, inl, inr, ◌∙◌}
use Rattle.std.specs.FinMap.{get}
use Rattle.ak_base.specs.Names.{next_name}
use Rattle.ak_base.specs.declared.cards.Card.{Card}
use Rattle.ak_base.specs.declared.names.Name.{Name}
use Rattle.ak_base.specs.declared.names.Table.{Table}
use Rattle.ak_base.specs.declared.names.Table.TheVariants as tables
use Rattle.ak_base.specs.declared.note_types.NoteType.{NoteType}
use Rattle.ak_cardgen.specs.Generation.{AreOrds}
use Rattle.ak_edit.specs.Refusals.{AnswersBy}
use Rattle.ak_edit.specs.declared.desk_faults.DeskFault.{DeskFault}
use Rattle.ak_edit_calls.proofs.FreeIds.{made_once}
use Rattle.ak_edit_calls.specs.NewNames.{first_name}
use Rattle.ak_keep.specs.Collections.{Rows}
use Rattle.ak_keep.specs.FreeNames.{is_used}
use Rattle.ak_merge.specs.Holdings.{name_in}
use Rattle.ak_notes.proofs.ToldOrds.{ords_once}
use Rattle.ak_notes.specs.NewCards.{AreCardsOf, AreNewCards, IsNewCard, RefusesCardIds, RefusesIds, first_after}
use Rattle.ak_notes.specs.declared.new_cards.CardPlace.{CardPlace}

-- ---- the name after them
-- after these cards and one more
after_one : (cards : List Card) (card : Card) (first : Name) → first_after (cards ++ card ∷ []) first ≡ name_in first.table (card.id +ℤ pos 1)
after_one [] card first = refl
after_one (other ∷ cards) card first = after_one cards card (name_in first.table (other.id +ℤ pos 1))

-- the name after one more card is that after the name of its id
pub next_one : (cards : List Card) (card : Card) (name first start : Name) → name.table ≡ first.table → first.table ≡ start.table → card.id ≡ name.id
    → next_name name ≡ first_after (cards ++ card ∷ []) start
next_one cards card name first start of table id =
    ap (λ (t : Table). name_in t (name.id +ℤ pos 1)) (of ∙ table) ∙ ap (λ (i : ℤ). name_in start.table (i +ℤ pos 1)) (sym id) ∙ sym (after_one cards card start)

-- ---- one way
pub cards_once : (used : Name → Bool) (place : CardPlace) (first : Name) (ords : List ℤ) (x y : List Card) → AreNewCards used place first ords x → AreNewCards used place first ords y → x ≡ y
cards_once used place first ords x y = made_once used (IsNewCard place) first ords x y (λ ord id a b one other. one ∙ sym other)

-- the new cards of one note are told
pub cards_of_once : (at : ℤ) (pick : List ℤ → List ℤ) (place : CardPlace) (note_type : NoteType) (fields : List (List ℕ)) (held : Rows) (x y : List Card)
    → AreCardsOf at pick place note_type fields held x → AreCardsOf at pick place note_type fields held y → x ≡ y
cards_of_once at pick place note_type fields held x y one other =
    let same : one.ords ≡ other.ords = ords_once note_type fields one.ords other.ords one.told other.told in
    cards_once (is_used (get held)) place (first_name tables.Card at) (pick other.ords) x y
    (subst (λ (ords : List ℤ). AreNewCards (is_used (get held)) place (first_name tables.Card at) (pick ords) x) same one.made) other.made

-- ---- the refusal
-- what is refused of the ords that were told is refused of the note
pub card_ids_answer : {T : Type 0} (at : ℤ) (pick : List ℤ → List ℤ) (note_type : NoteType) (fields : List (List ℕ)) (held : Rows) (ords : List ℤ) (result : Result T DeskFault)
    → AreOrds note_type fields ords → AnswersBy (RefusesIds at (pick ords) held) result → AnswersBy (RefusesCardIds at pick note_type fields held) result
card_ids_answer at pick note_type fields held ords (Ok value) told answers = record {
  accepted = λ fault refuses. answers.accepted fault
      (subst (λ (o : List ℤ). RefusesIds at (pick o) held fault) (ords_once note_type fields refuses.0 ords refuses.1 told) refuses.2);
  refused = tt;
}
card_ids_answer at pick note_type fields held ords (Err fault) told answers = record {
  accepted = tt;
  refused = elim answers.refused [ inl outside ↦ inl outside | inr is ↦ inr (ords, told, is) ];
}
