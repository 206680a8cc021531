-- The decks that count an answer, and their counts of the day.
use Rattle.std.specs.Prelude.{ℤ, pos, ◌+ℤ◌, Bool, ◌||◌, if◌then◌else◌, int_lt, Option, Some, None}
use Rattle.std.specs.Ordering.{int_eq}
use Rattle.ak_base.specs.Paths.{parts_of}
use Rattle.ak_base.specs.declared.days.Day.{Day}
use Rattle.ak_base.specs.declared.decks.Count.{Count}
use Rattle.ak_base.specs.declared.decks.Deck.{Deck}
use Rattle.ak_base.specs.declared.rows.Row.{Row}
use Rattle.ak_base.specs.declared.rows.Row.TheVariants as rows
use Rattle.ak_queue.specs.Limits.{is_ancestor}

-- a count of a day with one more: one of another day begins anew, and at its last value it stays
abbrev pub one_more : Day → Count → Count
one_more day c =
    if int_eq c.day day.number then record c { count = if int_lt c.count (pos 2_147_483_647) then c.count +ℤ pos 1 else c.count }
    else record { day = day.number; count = pos 1 }

-- a deck that counts the answer of a card that was in this queue: of a new card, or of a review
abbrev pub counted : Day → ℤ → Deck → Deck
counted day queue d =
    if int_eq queue (pos 0) then record d { new_today = one_more day d.new_today }
    else if int_eq queue (pos 2) then record d { rev_today = one_more day d.rev_today }
    else d

-- whether a deck counts the answers of cards in a deck, its home: that deck does, and so does each deck above it
abbrev pub counts_for : Deck → Deck → Bool
counts_for home d = int_eq d.id home.id || is_ancestor (parts_of d.name) (parts_of home.name)

-- a deck after the answer of a card that was in this queue and has this home; it may have none
abbrev pub deck_answered : Day → ℤ → Option Deck → Deck → Deck
deck_answered day queue None d = d
deck_answered day queue (Some home) d = if counts_for home d then counted day queue d else d

-- what is put for a row if the answer is counted in this home: the deck that counts it
abbrev pub counted_row : Day → ℤ → Deck → Row → Option Row
counted_row day queue home (rows.Deck d) = if counts_for home d then Some (rows.Deck (counted day queue d)) else None
counted_row day queue home (rows.Note note) = None
counted_row day queue home (rows.Card card) = None
counted_row day queue home (rows.Review review) = None
counted_row day queue home (rows.NoteType note_type) = None
counted_row day queue home (rows.Options options) = None
counted_row day queue home (rows.Grave grave) = None
