-- Cards that no filtered deck has moved.
use Rattle.std.specs.Prelude.{◌≡◌, ℤ, pos, true, is_some, Some}
use Rattle.ak_base.specs.declared.cards.Card.{Card}
use Rattle.ak_filtered.specs.HomeDecks.{filtered_at}
use Rattle.ak_keep.specs.Collections.{Collection}
use Rattle.ak_keep.specs.Lookups.{card_at}

-- a card lies in a deck that is held, and notes no deck and no day of a deck that it came from
pub record IsUnmoved (c : Collection) (card : Card) : Type 0 where
  pub deck : is_some (filtered_at c.rows card.did) ≡ true
  pub odid : card.odid ≡ pos 0
  pub odue : card.odue ≡ pos 0

-- each card of a collection does so
abbrev pub AreAllUnmoved : Collection → Type 0
AreAllUnmoved c = (id : ℤ) (card : Card) → card_at c.rows id ≡ Some card → IsUnmoved c card
