-- Cards that are away from home: they note the deck that they came from. How they go home.
use Rattle.std.specs.Prelude.{◌≡◌, ℤ, pos, Bool, false, ◌&&◌, ◌||◌, not, int_lt, if◌then◌else◌, is_some, List, Option}
use Rattle.std.specs.BTreeMap as map
use Rattle.std.specs.List.{list_any}
use Rattle.std.specs.Option.{option_map, option_map_or, option_or, unwrap_or}
use Rattle.std.specs.Ordering.{int_cmp, int_eq}
use Rattle.ak_base.specs.declared.cards.Card.{Card}
use Rattle.ak_base.specs.declared.decks.Deck.{Deck}
use Rattle.ak_edit_calls.specs.CardEdits.{card_edit}
use Rattle.ak_filtered.specs.declared.held_decks.HeldDecks.{HeldDecks}
use Rattle.ak_keep.specs.Collections.{Collection, Rows}
use Rattle.ak_keep.specs.Lookups.{card_at, deck_at}
use Rattle.ak_merge.specs.Edits.{Edit}

-- ---- the decks that are held
-- of the deck of each id whether it is filtered, nothing if it is not held
abbrev pub DeckFlags : Type 0
DeckFlags = ℤ → Option Bool

-- those of what is held
abbrev pub filtered_at : Rows → DeckFlags
filtered_at held id = option_map (λ (deck : Deck). deck.filtered) (deck_at held id)

-- those that were read
abbrev pub flags_of : HeldDecks → DeckFlags
flags_of decks id = map.get int_cmp decks.flags id

-- whether a card lies in a filtered deck. One whose deck is not held counts as in deck 1
abbrev pub is_in_filtered : DeckFlags → Card → Bool
is_in_filtered flags card = unwrap_or (option_or (flags card.did) (flags (pos 1))) false

-- ---- going home
-- whether a card is away: the deck that it came from is noted
abbrev pub is_away : Card → Bool
is_away card = int_lt (pos 0) card.odid

-- a card that goes home: into the deck that it came from, or into deck 1 if that is held no more, due as it was there. Its queue
-- stays. A card that is not away stays as it is
abbrev pub gone_home : DeckFlags → Card → Card
gone_home flags card =
    if is_away card then
    record card { did = if is_some (flags card.odid) then card.odid else pos 1; due = card.odue; odue = pos 0; odid = pos 0 }
    else card

-- the edit that sends those of these cards home that are held and away
abbrev pub sending_home : List ℤ → Collection → Edit
sending_home cards c = card_edit (gone_home (filtered_at c.rows)) cards c

-- whether the card of an id is held and away
abbrev pub is_away_at : Rows → ℤ → Bool
is_away_at held id = option_map_or is_away (card_at held id) false

-- whether one of these cards is
abbrev pub is_some_away : Rows → List ℤ → Bool
is_some_away held cards = list_any (is_away_at held) cards
