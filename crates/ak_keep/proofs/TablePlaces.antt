-- The places of the nine tables.
use Rattle.std.specs.Prelude.{◌<◌}
use Rattle.std.proofs.Common.{arith}
use Rattle.ak_base.specs.Names.{table_place}
use Rattle.ak_base.specs.declared.names.Table.{Table}
use Rattle.ak_base.specs.declared.names.Table.TheVariants as tables

pub below_nine : (table : Table) → table_place table < 9
below_nine tables.Note = omega arith
below_nine tables.Card = omega arith
below_nine tables.Review = omega arith
below_nine tables.NoteType = omega arith
below_nine tables.Deck = omega arith
below_nine tables.Options = omega arith
below_nine tables.NoteGrave = omega arith
below_nine tables.CardGrave = omega arith
below_nine tables.DeckGrave = omega arith
