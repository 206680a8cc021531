-- The ranges of a card's columns.
use Rattle.std.specs.Prelude.{pos, negsuc, Option, List, [], ◌∷◌, ◌++◌, length, ◌≡◌, Ok}
use Rattle.ak_base.specs.Columns.{id_fault, id_or_zero_fault, stamp_fault, code_fault, long_fault, first_fault}
use Rattle.ak_base.specs.Limits.{last_usn}
use Rattle.ak_base.specs.declared.errors.RowFault.{RowFault}
use Rattle.ak_base.specs.declared.cards.Card.{Card}

-- what the card is called, where it lies and when it was changed
unfoldable pub place_faults : Card → List (Option RowFault)
place_faults c =
    id_fault c.id
    ∷ id_fault c.nid
    ∷ id_fault c.did
    ∷ code_fault 3 c.ord (pos 0) (pos 499)
    ∷ stamp_fault c.stamp
    ∷ code_fault 5 c.usn (negsuc 0) last_usn
    ∷ []

-- what the scheduler keeps
unfoldable pub schedule_faults : Card → List (Option RowFault)
schedule_faults c =
    code_fault 6 c.kind (pos 0) (pos 3)
    ∷ code_fault 7 c.queue (negsuc 2) (pos 3)
    ∷ code_fault 8 c.due (negsuc 2_147_483_647) (pos 1_099_511_627_776)
    ∷ code_fault 9 c.ivl (pos 0) (pos 1_000_000)
    ∷ code_fault 10 c.factor (pos 0) (pos 100_000)
    ∷ code_fault 11 c.reps (pos 0) (pos 2_147_483_647)
    ∷ code_fault 12 c.lapses (pos 0) (pos 2_147_483_647)
    ∷ code_fault 13 c.left (pos 0) (pos 999_999)
    ∷ []

-- what a filtered deck keeps of the card, and its marks
unfoldable pub mark_faults : Card → List (Option RowFault)
mark_faults c =
    code_fault 14 c.odue (negsuc 2_147_483_647) (pos 1_099_511_627_776)
    ∷ id_or_zero_fault c.odid
    ∷ code_fault 16 c.flags (pos 0) (pos 2_147_483_647)
    ∷ long_fault 17 (length c.extra) 32_768
    ∷ []

-- the fault of each column, in the order of schema 11's `cards`
abbrev pub card_faults : Card → List (Option RowFault)
card_faults c = place_faults c ++ (schedule_faults c ++ mark_faults c)

-- a card passes its check: every column is in its range
abbrev pub IsCheckedCard : Card → Type 0
IsCheckedCard c = first_fault (card_faults c) ≡ Ok tt
