-- The decks and the cards of a collection, and in which deck a card lies.
use Rattle.std.specs.Prelude.{ℕ, ℤ, pos, Bool, false, if◌then◌else◌, List, [], ◌∷◌, Option, Some, None}
use Rattle.std.specs.Option.{option_or}
use Rattle.std.specs.Ordering.{int_eq}
use Rattle.ak_base.specs.Paths.{parts_of, are_first_parts}
use Rattle.ak_base.specs.declared.cards.Card.{Card}
use Rattle.ak_base.specs.declared.decks.Deck.{Deck}
pub use Rattle.ak_keep.specs.Lookups.{cards_in}

-- the parts of a deck's path, from the top
abbrev pub Parts : Type 0
Parts = List (List ℕ)

-- the parts of the path of the deck of an id, if it is among the decks
abbrev pub parts_at : List Deck → ℤ → Option Parts
parts_at [] id = None
parts_at (deck ∷ decks) id = if int_eq deck.id id then Some (parts_of deck.name) else parts_at decks id

-- the parts of the path of the deck that a card lies in, by what decks are held: its own deck, and deck 1 if that is not held
abbrev pub path_of_card : (ℤ → Option Parts) → Card → Option Parts
path_of_card held c = option_or (held c.did) (held (pos 1))

-- whether a deck that may be held is in the subtree of another
abbrev pub leads_to : Parts → Option Parts → Bool
leads_to root None = false
leads_to root (Some parts) = are_first_parts root parts
