-- The cards that a call makes for a note, and why it can't.
use Rattle.std.specs.Prelude.{◌≡◌, ℕ, ℤ, pos, negsuc, ◌+ℤ◌, Bool, int_lt, if◌then◌else◌, List, [], ◌∷◌, length, Some}
use Rattle.std.specs.FinMap.{get}
use Rattle.ak_base.specs.declared.cards.Card.{Card}
use Rattle.ak_base.specs.declared.heads.Conf.{Conf}
use Rattle.ak_base.specs.declared.names.Name.{Name}
use Rattle.ak_base.specs.declared.names.Table.TheVariants as tables
use Rattle.ak_base.specs.declared.note_types.NoteType.{NoteType}
use Rattle.ak_cardgen.specs.Generation.{AreOrds, generation_fault}
use Rattle.ak_edit.specs.Refusals.{Refusal}
use Rattle.ak_edit.specs.declared.desk_faults.DeskFault.TheVariants as faults
use Rattle.ak_edit_calls.specs.NewNames.{AreMadeOf, RefusesIdsFrom, first_name}
use Rattle.ak_keep.specs.Collections.{Holding, Rows}
use Rattle.ak_keep.specs.FreeNames.{is_used}
use Rattle.ak_merge.specs.Holdings.{name_in}
use Rattle.ak_notes.specs.declared.new_cards.CardPlace.{CardPlace}
use Rattle.ak_template.specs.declared.faults.TemplateFault.{TemplateFault}

-- ---- cards
-- a new card of this ord and id, which gets its stamp at the end of its edit
abbrev pub new_card : CardPlace → ℤ → ℤ → Card
new_card place ord id = record {
  id = id;
  nid = place.note;
  did = place.deck;
  ord = ord;
  stamp = pos 0;
  usn = negsuc 0;
  kind = pos 0;
  queue = pos 0;
  due = place.due;
  ivl = pos 0;
  factor = pos 0;
  reps = pos 0;
  lapses = pos 0;
  left = pos 0;
  odue = pos 0;
  odid = pos 0;
  flags = pos 0;
  extra = [];
}

-- the ords of the cards of a note that needs one: if it shows nothing, it gets one of ord 0
abbrev pub at_least_one : List ℤ → List ℤ
at_least_one [] = pos 0 ∷ []
at_least_one (ord ∷ ords) = ord ∷ ords

-- the card is the new one of this ord and id
abbrev pub IsNewCard : CardPlace → ℤ → ℤ → Card → Type 0
IsNewCard place ord id card = card ≡ new_card place ord id

-- a new card for each of these ords, in their order: each has the first free id after the one before
abbrev pub AreNewCards : (Name → Bool) → CardPlace → Name → List ℤ → List Card → Type 0
AreNewCards used place first ords cards = AreMadeOf used (IsNewCard place) first ords cards

-- the same in what is held
abbrev pub AreNewIn : CardPlace → Name → List ℤ → List Card → Holding → Type 0
AreNewIn place first ords cards h = AreNewCards (is_used (get h.rows)) place first ords cards

-- the name from which on the next card looks for its own after these, which began at this one
abbrev pub first_after : List Card → Name → Name
first_after [] first = first
first_after (card ∷ cards) first = first_after cards (name_in first.table (card.id +ℤ pos 1))

-- a new card for each of the ords that are picked of those of a note with these fields
pub record AreCardsOf (at : ℤ) (pick : List ℤ → List ℤ) (place : CardPlace) (note_type : NoteType) (fields : List (List ℕ)) (held : Rows) (cards : List Card) : Type 0 where
  pub ords : List ℤ
  pub told : AreOrds note_type fields ords
  pub made : AreNewCards (is_used (get held)) place (first_name tables.Card at) (pick ords) cards

-- a front is no template
abbrev pub RefusesFronts : NoteType → Refusal
RefusesFronts note_type fault =
    (front : TemplateFault) × (generation_fault note_type ≡ Some front) × (fault ≡ faults.Template front)

-- there are too few free ids for cards of these ords from the first name of a moment on
abbrev pub RefusesIds : ℤ → List ℤ → Rows → Refusal
RefusesIds at ords held = RefusesIdsFrom (first_name tables.Card at) (length ords) (get held)

-- the same of the ords that are picked of those of a note with these fields
abbrev pub RefusesCardIds : ℤ → (List ℤ → List ℤ) → NoteType → List (List ℕ) → Rows → Refusal
RefusesCardIds at pick note_type fields held fault =
    (ords : List ℤ) × AreOrds note_type fields ords × RefusesIds at (pick ords) held fault

-- ---- the place of new cards
-- the next place, which at the last one stays
abbrev pub place_after : ℤ → ℤ
place_after place = if int_lt place (pos 2_147_483_647) then place +ℤ pos 1 else place

-- the settings after cards came at the next place, if any came
abbrev pub conf_after : List Card → Conf → Conf
conf_after [] conf = conf
conf_after (card ∷ cards) conf = record conf { next_pos = place_after conf.next_pos }
