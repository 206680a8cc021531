-- The decks that are held, as they are noted one by one.
use Rattle.std.specs.Prelude.{◌≡◌, ℤ, Bool, if◌then◌else◌, List, [], ◌∷◌, Option, Some, None}
use Rattle.std.specs.Option.{option_or}
use Rattle.std.specs.Ordering.{int_eq}
use Rattle.ak_base.specs.declared.decks.Deck.{Deck}
use Rattle.ak_filtered.specs.HomeDecks.{DeckFlags, flags_of}
use Rattle.ak_filtered.specs.declared.held_decks.HeldDecks.{HeldDecks}

-- of the deck of each id among these whether it is filtered
abbrev pub flags_in : List Deck → DeckFlags
flags_in [] id = None
flags_in (deck ∷ decks) id = if int_eq deck.id id then Some deck.filtered else flags_in decks id

-- a deck was noted, if none of its id was
abbrev pub NotesDeck : Deck → HeldDecks → HeldDecks → Type 0
NotesDeck deck old new = (id : ℤ) → flags_of new id ≡ option_or (flags_of old id) (if int_eq deck.id id then Some deck.filtered else None)
