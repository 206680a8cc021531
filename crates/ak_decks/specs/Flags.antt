-- The flag of a card.
use Rattle.std.specs.Prelude.{ℤ, pos, ◌+ℤ◌, ◌-ℤ◌, int_rem, List}
use Rattle.ak_base.specs.declared.cards.Card.{Card}
use Rattle.ak_edit.specs.Refusals.{Refusal}
use Rattle.ak_edit_calls.specs.CardEdits.{RefusesCardEdit, card_edit}
use Rattle.ak_keep.specs.Collections.{Collection}
use Rattle.ak_merge.specs.Edits.{Edit}

-- a card with this flag, 0 to 7, in place of the one that it has: it is the remainder of its flags by 8
abbrev pub flagged : ℤ → Card → Card
flagged value card = record card { flags = (card.flags -ℤ int_rem card.flags (pos 8)) +ℤ value }

-- the edit that gives this flag to these cards
abbrev pub flagging : ℤ → List ℤ → Collection → Edit
flagging value = card_edit (flagged value)

-- the tests of that edit: a card is not held, or a stamp or the moment ends
abbrev pub RefusesFlag : ℤ → ℤ → List ℤ → Collection → Refusal
RefusesFlag at value = RefusesCardEdit at (flagged value)
