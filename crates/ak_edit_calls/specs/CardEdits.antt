-- An edit that changes cards one by one, each in the same way.
use Rattle.std.specs.Prelude.{◌≡◌, ℤ, Bool, true, if◌then◌else◌, List, [], ◌∷◌}
use Rattle.std.specs.Option.{option_map_or}
use Rattle.ak_base.specs.Cards.{IsCheckedCard}
use Rattle.ak_base.specs.declared.cards.Card.{Card}
use Rattle.ak_base.specs.declared.names.Name.{Name}
use Rattle.ak_base.specs.declared.names.Table.TheVariants as tables
use Rattle.ak_base.specs.declared.rows.Row.{Row}
use Rattle.ak_edit_calls.specs.Calls.{RefusesMissing, has_id}
use Rattle.ak_base.specs.RowsOfOneKind.{on_card}
use Rattle.ak_edit.specs.Ends.{RefusesStamp}
use Rattle.ak_edit.specs.Overlays.{Overlay, put_over}
use Rattle.ak_edit.specs.Refusals.{OrElse, Refusal}
use Rattle.ak_keep.specs.Collections.{Collection}
use Rattle.ak_merge.specs.EditBuilding.{unedited, with_rows_mapped}
use Rattle.ak_merge.specs.Edits.{Edit}
use Rattle.ak_keep.specs.Graves.{RowsByName}
use Rattle.ak_merge.specs.Holdings.{name_in, row_under}

-- a change of cards keeps what a card is called
abbrev pub KeepsIds : (Card → Card) → Type 0
KeepsIds change = (card : Card) → (change card).id ≡ card.id

-- the same, and its columns in their ranges
pub record KeepsCards (change : Card → Card) : Type 0 where
  pub id : KeepsIds change
  pub checked : (card : Card) → IsCheckedCard card → IsCheckedCard (change card)

-- ---- the rule
-- a row changed in this way, if it is a card whose id meets the test
abbrev pub changed_if : (ℤ → Bool) → (Card → Card) → Row → Row
changed_if test change = on_card (λ (card : Card). if test card.id then change card else card)

-- the edit that changes each of these cards in this way
abbrev pub card_edit : (Card → Card) → List ℤ → Collection → Edit
card_edit change cards c = with_rows_mapped (changed_if (has_id cards) change) (unedited c)

-- the tests of that edit: a card is not held, or a stamp or the moment ends
abbrev pub RefusesCardEdit : ℤ → (Card → Card) → List ℤ → Collection → Refusal
RefusesCardEdit at change cards c = OrElse (RefusesMissing (row_under c) tables.Card cards) (RefusesStamp at c (card_edit change cards c))

-- ---- the changes that are made for it
-- a row changed in this way, if it is a card
abbrev pub changed_row : (Card → Card) → Row → Row
changed_row = changed_if (λ _. true)

-- the row of this name, as it is held, was changed and put
abbrev pub put_changed : (Card → Card) → RowsByName → Name → Overlay → Overlay
put_changed change at name o = option_map_or (λ (row : Row). put_over (changed_row change row) o) (at name) o

-- the same for each of these cards
abbrev pub put_each : (Card → Card) → RowsByName → List ℤ → Overlay → Overlay
put_each change at [] o = o
put_each change at (card ∷ cards) o = put_each change at cards (put_changed change at (name_in tables.Card card) o)
