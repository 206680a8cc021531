-- The ranges of a deck's columns.
use Rattle.std.specs.Prelude.{ℕ, pos, negsuc, Option, List, [], ◌∷◌, ◌++◌, length, ◌≡◌, Ok}
use Rattle.std.specs.Option.{option_or}
use Rattle.ak_base.specs.Columns.{id_fault, stamp_fault, code_fault, long_fault, first_fault}
use Rattle.ak_base.specs.Limits.{last_usn}
use Rattle.ak_base.specs.declared.errors.RowFault.{RowFault}
use Rattle.ak_base.specs.declared.decks.Count.{Count}
use Rattle.ak_base.specs.declared.decks.Deck.{Deck}

-- a count's day comes before its number
abbrev pub count_fault : ℕ → Count → Option RowFault
count_fault column c =
    option_or (code_fault column c.day (negsuc 9_999_999) (pos 100_000_000)) (code_fault column c.count (pos 0) (pos 2_147_483_647))

-- what the deck is called, its options, and when it was changed
unfoldable pub title_faults : Deck → List (Option RowFault)
title_faults d =
    id_fault d.id
    ∷ stamp_fault d.stamp
    ∷ code_fault 2 d.usn (negsuc 0) last_usn
    ∷ long_fault 3 (length d.name) 512
    ∷ id_fault d.options
    ∷ []

-- how many cards were taken, and the rest
unfoldable pub taken_faults : Deck → List (Option RowFault)
taken_faults d =
    count_fault 6 d.new_today
    ∷ count_fault 7 d.rev_today
    ∷ long_fault 8 (length d.rest.text) 262_144
    ∷ []

-- the fault of each column, in the order of the fields; a truth value has none
abbrev pub deck_faults : Deck → List (Option RowFault)
deck_faults d = title_faults d ++ taken_faults d

-- a deck passes its check: every column is in its range
abbrev pub IsCheckedDeck : Deck → Type 0
IsCheckedDeck d = first_fault (deck_faults d) ≡ Ok tt
