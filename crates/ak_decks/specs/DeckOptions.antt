-- Groups of options, and the options of a deck.
use Rattle.std.specs.Prelude.{◌≡◌, ◌⊎◌, ℤ, pos, Err}
use Rattle.ak_base.specs.Rows.{check_of}
use Rattle.ak_base.specs.declared.decks.Deck.{Deck}
use Rattle.ak_base.specs.declared.errors.RowFault.{RowFault}
use Rattle.ak_base.specs.declared.names.Table.TheVariants as tables
use Rattle.ak_base.specs.declared.option_groups.Options.{Options}
use Rattle.ak_base.specs.declared.rows.Row.{Row}
use Rattle.ak_edit.specs.Ends.{RefusesStamp}
use Rattle.ak_edit.specs.Refusals.{IsEndFault, OrElse, Refusal}
use Rattle.ak_edit.specs.declared.desk_faults.DeskFault.{DeskFault}
use Rattle.ak_edit.specs.declared.desk_faults.DeskFault.TheVariants as faults
use Rattle.ak_edit_calls.specs.Calls.{IsMissingFault, RefusesAbsent}
use Rattle.ak_edit_calls.specs.RowEdits.{row_change, row_edit}
use Rattle.ak_base.specs.RowsOfOneKind.{on_deck}
use Rattle.ak_keep.specs.Collections.{Collection}
use Rattle.ak_merge.specs.Edits.{Edit, edited}
use Rattle.ak_merge.specs.Holdings.{name_in, row_under}

-- ---- the options of a deck
-- the row with these options, if it is a deck
abbrev pub using_options : ℤ → Row → Row
using_options options = on_deck (λ (deck : Deck). record deck { options = options })

-- the edit that gives these options to this deck
abbrev pub options_use : ℤ → ℤ → Collection → Edit
options_use options deck = row_change (name_in tables.Deck deck) (using_options options)

-- the deck is not held, or the options are not
abbrev pub RefusesUnheld : ℤ → ℤ → Collection → Refusal
RefusesUnheld options deck c = OrElse (RefusesAbsent (row_under c) (name_in tables.Deck deck)) (RefusesAbsent (row_under c) (name_in tables.Options options))

-- the tests of that edit: the deck or the options are not held, or a stamp or the moment ends
abbrev pub RefusesUse : ℤ → ℤ → ℤ → Collection → Refusal
RefusesUse at options deck c = OrElse (RefusesUnheld options deck c) (RefusesStamp at c (options_use options deck c))

-- what it may answer
abbrev pub IsUseFault : DeskFault → Type 0
IsUseFault fault = IsMissingFault tables.Deck fault ⊎ IsMissingFault tables.Options fault ⊎ IsEndFault fault
