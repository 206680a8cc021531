-- The deck of a card.
use Rattle.std.specs.Prelude.{◌⊎◌, ℤ, List}
use Rattle.ak_base.specs.declared.cards.Card.{Card}
use Rattle.ak_base.specs.declared.names.Table.TheVariants as tables
use Rattle.ak_edit.specs.Refusals.{OrElse, Refusal}
use Rattle.ak_edit.specs.declared.desk_faults.DeskFault.{DeskFault}
use Rattle.ak_edit_calls.specs.Calls.{IsMissingFault, IsMissingOrEnd, RefusesAbsent}
use Rattle.ak_edit_calls.specs.CardEdits.{RefusesCardEdit, card_edit}
use Rattle.ak_keep.specs.Collections.{Collection}
use Rattle.ak_merge.specs.Edits.{Edit}
use Rattle.ak_merge.specs.Holdings.{name_in, row_under}

-- a card in this deck
abbrev pub moved : ℤ → Card → Card
moved deck card = record card { did = deck }

-- the edit that moves these cards to this deck
abbrev pub moving : ℤ → List ℤ → Collection → Edit
moving deck = card_edit (moved deck)

-- the tests of that edit: the deck is not held, a card is not held, or a stamp or the moment ends
abbrev pub RefusesMove : ℤ → ℤ → List ℤ → Collection → Refusal
RefusesMove at deck cards c = OrElse (RefusesAbsent (row_under c) (name_in tables.Deck deck)) (RefusesCardEdit at (moved deck) cards c)

-- what it may answer
abbrev pub IsMoveFault : DeskFault → Type 0
IsMoveFault fault = IsMissingFault tables.Deck fault ⊎ IsMissingOrEnd tables.Card fault
