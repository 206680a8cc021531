-- The lists of rows that are made of a seed, each by its ids.
use Rattle.std.specs.Prelude.{ℕ, ◌*◌, List, ◌++◌, map}
use Rattle.std.specs.List.{range_with_len}
use Rattle.ak_base.specs.declared.rows.Row.{Row}
use Rattle.ak_base.specs.declared.rows.Row.TheVariants as rows
use Rattle.ak_made_collections.specs.MadeCards.{made_card, made_review}
use Rattle.ak_made_collections.specs.MadeNotes.{made_note}
use Rattle.ak_made_collections.specs.RowNumbers.{cards_before}

-- so many notes
abbrev pub note_rows : ℕ → ℕ → List Row
note_rows seed count = map (λ (number : ℕ). rows.Note (made_note seed number)) (range_with_len 0 count)

-- so many cards
abbrev pub card_rows : ℕ → ℕ → List Row
card_rows seed count = map (λ (number : ℕ). rows.Card (made_card seed number)) (range_with_len 0 count)

-- so many reviews
abbrev pub review_rows : ℕ → ℕ → List Row
review_rows seed count = map (λ (number : ℕ). rows.Review (made_review seed number)) (range_with_len 0 count)

-- so many notes, with all of their cards, and four reviews of each card
abbrev pub made_rows : ℕ → ℕ → List Row
made_rows seed notes =
    note_rows seed notes ++ card_rows seed (cards_before notes) ++ review_rows seed (4 * cards_before notes)
