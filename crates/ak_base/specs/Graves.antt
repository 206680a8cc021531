-- The ranges of a grave's columns, the table that it stands in, and the row that it is of.
use Rattle.std.specs.Prelude.{ℤ, pos, negsuc, Option, List, [], ◌∷◌, option_and_then, unwrap_or}
use Rattle.ak_base.specs.Columns.{id_fault, code_fault}
use Rattle.ak_base.specs.Limits.{last_usn}
use Rattle.ak_base.specs.Tables.{graves_of, of_grave_code}
use Rattle.ak_base.specs.declared.errors.RowFault.{RowFault}
use Rattle.ak_base.specs.declared.graves.Grave.{Grave}
use Rattle.ak_base.specs.declared.names.Name.{Name}
use Rattle.ak_base.specs.declared.names.Table.{Table}
use Rattle.ak_base.specs.declared.names.Table.TheVariants.{Deck, DeckGrave}

-- the fault of each column, in the order of schema 11's `graves`
abbrev pub grave_faults : Grave → List (Option RowFault)
grave_faults g =
    code_fault 0 g.usn (negsuc 0) last_usn
    ∷ id_fault g.oid
    ∷ code_fault 2 g.kind (pos 0) (pos 2)
    ∷ []

-- the table that a grave of this kind stands in; one of no stored code stands with those of decks
abbrev pub grave_table : ℤ → Table
grave_table kind = unwrap_or (option_and_then graves_of (of_grave_code kind)) DeckGrave

-- the table whose rows leave a grave of this kind; one of no stored code counts as a deck's
abbrev pub buried_table : ℤ → Table
buried_table kind = unwrap_or (of_grave_code kind) Deck

-- the name of the row that was deleted
abbrev pub buried_by : Grave → Name
buried_by g = record { table = buried_table g.kind; id = g.oid }
