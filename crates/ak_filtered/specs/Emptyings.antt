-- Filtered decks that are emptied: all cards that are away in them go home.
use Rattle.std.specs.Prelude.{◌≡◌, ◌⊎◌, ℕ, ℤ, pos, Bool, true, false, ◌&&◌, if◌then◌else◌, List, [], ◌∷◌, ◌++◌, filter, length, Option, Some, None, Result, IfErr, OnOk}
use Rattle.std.specs.List.{filter_map}
use Rattle.std.specs.Option.{option_map_or}
use Rattle.std.specs.Ordering.{int_eq}
use Rattle.ak_base.specs.Paths.{is_in_subtree}
use Rattle.ak_base.specs.declared.cards.Card.{Card}
use Rattle.ak_base.specs.declared.decks.Deck.{Deck}
use Rattle.ak_base.specs.declared.names.Table.TheVariants as tables
use Rattle.ak_base.specs.declared.rows.Row.{Row}
use Rattle.ak_base.specs.declared.rows.Row.TheVariants as rows
use Rattle.ak_edit.specs.Ends.{RefusesStamp}
use Rattle.ak_edit.specs.Refusals.{IsFromOutside, Refusal}
use Rattle.ak_edit.specs.declared.desk_faults.DeskFault.{DeskFault}
use Rattle.ak_edit_calls.specs.Calls.{RefusesAbsent}
use Rattle.ak_edit_calls.specs.CardEdits.{changed_row}
use Rattle.ak_filtered.specs.ClearedEdits.{IsCleared}
use Rattle.ak_filtered.specs.FilteredFaults.{ByDesk, FirstOf, Test}
use Rattle.ak_filtered.specs.HomeDecks.{DeckFlags, filtered_at, gone_home, is_away}
use Rattle.ak_filtered.specs.declared.faults.FilteredFault.TheVariants as faults
use Rattle.ak_keep.specs.Collections.{Collection, Rows, rows_past}
use Rattle.ak_keep.specs.Keepers.{Keeping, WhereHeld}
use Rattle.ak_keep.specs.Lookups.{deck_at, decks_in}
use Rattle.ak_merge.specs.EditBuilding.{unedited, with_rows_mapped}
use Rattle.ak_merge.specs.Edits.{Edit}
use Rattle.ak_merge.specs.Holdings.{name_in, row_under}
use Rattle.ak_undo.specs.declared.steps.Step.{Step}

-- ---- the rule
-- whether a card lies in this deck and is away from home
abbrev pub is_away_in : ℤ → Card → Bool
is_away_in deck card = int_eq card.did deck && is_away card

-- a card once this deck was emptied
abbrev pub emptied : ℤ → DeckFlags → Card → Card
emptied deck flags card = if is_away_in deck card then gone_home flags card else card

-- the edit that empties this deck
abbrev pub emptying : ℤ → Collection → Edit
emptying deck c = with_rows_mapped (changed_row (emptied deck (filtered_at c.rows))) (unedited c)

-- the id of a row, if it is a card that is away in this deck
abbrev pub away_id : ℤ → Row → Option ℤ
away_id deck (rows.Card card) = if is_away_in deck card then Some card.id else None
away_id deck (rows.Note note) = None
away_id deck (rows.Review review) = None
away_id deck (rows.NoteType note_type) = None
away_id deck (rows.Deck other) = None
away_id deck (rows.Options options) = None
away_id deck (rows.Grave grave) = None

-- the ids of the cards that go home
abbrev pub away_ids : ℤ → Rows → List ℤ
away_ids deck held = filter_map (away_id deck) (rows_past tables.Card (pos 0) held)

-- at this moment the deck was emptied, and so many cards went home
pub record IsEmptied (at : ℤ) (deck : ℤ) (c : Collection) (before now : Keeping) (left : List Step) (count : ℕ) : Type 0 where
  pub count_is : count ≡ length (away_ids deck c.rows)
  pub cleared : IsCleared at c (emptying deck c) before now left

-- ---- refusals
-- the deck of this id is held and is not filtered
abbrev pub RefusesPlain : ℤ → Rows → Test
RefusesPlain id held fault =
    (deck : Deck) × (deck_at held id ≡ Some deck) × (deck.filtered ≡ false) × (fault ≡ faults.NotFiltered id)

-- the deck of this id is not held, or is not filtered
abbrev pub RefusesDeck : ℤ → Collection → Test
RefusesDeck id c = FirstOf (ByDesk (RefusesAbsent (row_under c) (name_in tables.Deck id))) (RefusesPlain id c.rows)

-- a stamp or the moment ends
abbrev pub RefusesEmptying : ℤ → ℤ → Collection → Refusal
RefusesEmptying at deck c = RefusesStamp at c (emptying deck c)

-- the tests of `empty`
abbrev pub RefusesToEmpty : ℤ → ℤ → Collection → Test
RefusesToEmpty at deck c = FirstOf (RefusesDeck deck c) (ByDesk (RefusesEmptying at deck c))

-- ---- a subtree
-- the filtered ones among these decks that are in the subtree of a path
abbrev pub filtered_under : List ℕ → List Deck → List Deck
filtered_under root decks = filter (λ (deck : Deck). deck.filtered && is_in_subtree root deck.name) decks

-- the filtered decks in the subtree of the deck of this id, by ascending id; none if that is not held
abbrev pub filtered_below : ℤ → Rows → List Deck
filtered_below id held = option_map_or (λ (root : Deck). filtered_under root.name (decks_in held)) (deck_at held id) []

-- each of these decks was emptied at this moment, one after the other; if there are any, nothing can be undone
abbrev pub AreEmptied : ℤ → List Deck → Keeping → Keeping → List Step → List Step → Type 0
AreEmptied at [] before now steps left = (now ≡ before) × (left ≡ steps)
AreEmptied at (deck ∷ decks) before now steps left =
    (mid : Keeping)
    × WhereHeld before (λ c. IsCleared at c (emptying deck.id c) before mid [] × ((fault : DeskFault) → RefusesEmptying at deck.id c fault → ⊥))
    × AreEmptied at decks mid now [] left

-- the first of these decks were emptied and stay so, and the emptying of the next one was refused with this fault
pub record IsStopped (at : ℤ) (decks : List Deck) (before now : Keeping) (steps left : List Step) (fault : DeskFault) : Type 0 where
  pub first : List Deck
  pub next : Deck
  pub others : List Deck
  pub all : decks ≡ first ++ next ∷ others
  pub emptied : AreEmptied at first before now steps left
  pub refused : WhereHeld now (λ c. RefusesEmptying at next.id c fault)

-- some of the first of these decks were emptied and stay so, when the keeper failed or memory was out
pub record IsCutOff (at : ℤ) (decks : List Deck) (before now : Keeping) (steps left : List Step) : Type 0 where
  pub first : List Deck
  pub others : List Deck
  pub all : decks ≡ first ++ others
  pub emptied : AreEmptied at first before now steps left

-- how a call ended that empties these decks
pub record EndsEmptied {T : Type 0} (at : ℤ) (decks : List Deck) (before now : Keeping) (steps left : List Step) (result : Result T DeskFault) : Type 0 where
  pub done : OnOk result (AreEmptied at decks before now steps left)
  pub refused : IfErr result (λ fault. (IsFromOutside fault × IsCutOff at decks before now steps left) ⊎ IsStopped at decks before now steps left fault)
