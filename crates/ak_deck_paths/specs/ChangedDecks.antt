-- Decks that a call puts: the edit that asks for them, and the changes that are made for it.
use Rattle.std.specs.Prelude.{◌≡◌, ⊤, List, [], ◌∷◌}
use Rattle.ak_base.specs.declared.decks.Deck.{Deck}
use Rattle.ak_base.specs.declared.names.Table.TheVariants as tables
use Rattle.ak_base.specs.declared.rows.Row.TheVariants as rows
use Rattle.ak_edit.specs.Overlays.{Overlay, put_over}
use Rattle.ak_edit.specs.declared.desk_faults.DeskFault.{DeskFault}
use Rattle.ak_edit.specs.declared.desk_faults.DeskFault.TheVariants as faults
use Rattle.ak_merge.specs.EditBuilding.{with_row}
use Rattle.ak_merge.specs.Edits.{Edit}
use Rattle.ak_deck_paths.specs.declared.changed_decks.ChangedDecks.{ChangedDecks}

-- with each of these decks under its name
abbrev pub with_decks : List Deck → Edit → Edit
with_decks [] edit = edit
with_decks (deck ∷ decks) edit = with_decks decks (with_row (rows.Deck deck) edit)

-- each of the decks was put
abbrev pub decks_over : List Deck → Overlay → Overlay
decks_over [] o = o
decks_over (deck ∷ decks) o = decks_over decks (put_over (rows.Deck deck) o)

-- the decks that move were put, and then those that were made
abbrev pub changed_over : ChangedDecks → Overlay → Overlay
changed_over decks o = decks_over decks.made (decks_over decks.moved o)

-- what a call that adds or renames a deck may answer, besides that a deck is not held
abbrev pub IsPathFault : DeskFault → Type 0
IsPathFault (faults.Row fault) = ⊤
IsPathFault (faults.InUse name) = name.table ≡ tables.Deck
IsPathFault faults.IdEnd = ⊤
IsPathFault faults.StampEnd = ⊤
IsPathFault faults.Failed = ⊤
IsPathFault faults.Memory = ⊤
IsPathFault fault = ⊥
