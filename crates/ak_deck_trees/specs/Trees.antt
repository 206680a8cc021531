-- What belongs to the subtree of a deck: the decks whose paths begin with its path, part by part, their cards, and the notes
-- that have no other cards.
use Rattle.std.specs.Prelude.{ℕ, ℤ, Bool, false, not, ◌&&◌, List, Option}
use Rattle.std.specs.List.{list_all}
use Rattle.std.specs.Option.{option_map_or}
use Rattle.ak_base.specs.Paths.{is_in_subtree}
use Rattle.ak_base.specs.declared.cards.Card.{Card}
use Rattle.ak_base.specs.declared.decks.Deck.{Deck}
use Rattle.ak_base.specs.declared.rows.Row.{Row}
use Rattle.ak_base.specs.declared.rows.Row.TheVariants as rows
use Rattle.ak_keep.specs.Collections.{Rows, cards_of}
use Rattle.ak_keep.specs.Lookups.{card_at, deck_at}
use Rattle.ak_merge.specs.Soundness.{is_empty}

-- ---- the subtree of a path
-- whether a deck of this id is held and is in the subtree
abbrev pub is_in_tree : List ℕ → Rows → ℤ → Bool
is_in_tree root held id = option_map_or (λ (deck : Deck). is_in_subtree root deck.name) (deck_at held id) false

-- whether a card is there, and its deck is in the subtree
abbrev pub is_held_in_tree : List ℕ → Rows → Option Card → Bool
is_held_in_tree root held card = option_map_or (λ (card : Card). is_in_tree root held card.did) card false

-- the same of the card of this id
abbrev pub is_card_in_tree : List ℕ → Rows → ℤ → Bool
is_card_in_tree root held id = is_held_in_tree root held (card_at held id)

-- whether there are any cards of these ids, and all of them are in decks of the subtree
abbrev pub are_in_tree : List ℕ → Rows → List ℤ → Bool
are_in_tree root held cards = not (is_empty cards) && list_all (is_card_in_tree root held) cards

-- whether a row goes with the subtree: a deck of it, a card in such a deck, or a note that has cards and all of them there
abbrev pub goes_with : List ℕ → Rows → Row → Bool
goes_with root held (rows.Deck deck) = is_in_subtree root deck.name
goes_with root held (rows.Card card) = is_in_tree root held card.did
goes_with root held (rows.Note note) = are_in_tree root held (cards_of note.id held)
goes_with root held (rows.Review review) = false
goes_with root held (rows.NoteType note_type) = false
goes_with root held (rows.Options options) = false
goes_with root held (rows.Grave grave) = false
