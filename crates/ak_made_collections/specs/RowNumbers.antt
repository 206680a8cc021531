-- Which cards a note has, and which words of a seed each row is made of. All numbers count from 0.
use Rattle.std.specs.Prelude.{ℕ, ◌+◌, ◌-◌, ◌*◌, ◌/◌, ◌%◌, ◌==◌, ◌||◌, if◌then◌else◌}

-- ---- which cards a note has
-- how many cards the notes before one have: a note whose number 3 divides has one card, and each other one has two
abbrev pub cards_before : ℕ → ℕ
cards_before note = 2 * note - (note + 2) / 3

-- the note of a card: three notes in a row have five cards
abbrev pub note_of_card : ℕ → ℕ
note_of_card card = 3 * (card / 5) + (card % 5 + 1) / 2

-- the place of a card among those of its note: of five in a row the third and the fifth are second cards
abbrev pub place_of_card : ℕ → ℕ
place_of_card card = if (card % 5 == 2) || (card % 5 == 4) then 1 else 0

-- ---- which words they are made of
-- how many words come before those of a note: two for each note before it, and eleven for each card of these
abbrev pub words_before_note : ℕ → ℕ
words_before_note note = 2 * note + 11 * cards_before note

-- how many come before those of a card: the two of its own note too
abbrev pub words_before_card : ℕ → ℕ
words_before_card card = 2 * (note_of_card card + 1) + 11 * card

-- how many come before those of a review: a card's reviews are four, each of two words, and come after its own three words
abbrev pub words_before_review : ℕ → ℕ
words_before_review review = words_before_card (review / 4) + 3 + 2 * (review % 4)
