-- The paths of decks that are held.
use Rattle.std.specs.FinMap.{get}
use Rattle.std.specs.Option.{option_map_or}
use Rattle.std.specs.Prelude.{ℕ, ℤ, List, []}
use Rattle.ak_base.specs.declared.decks.Deck.{Deck}
use Rattle.ak_base.specs.declared.names.Table.TheVariants as tables
use Rattle.ak_base.specs.declared.rows.Row.{Row}
use Rattle.ak_keep.specs.Collections.{Rows}
use Rattle.ak_keep.specs.Lookups.{as_deck}
use Rattle.ak_merge.specs.Holdings.{name_in}

-- the path of a deck: its name. Other rows have the empty one
abbrev pub path_of : Row → List ℕ
path_of row = option_map_or (λ (deck : Deck). deck.name) (as_deck row) []

-- the path of the deck of this id, and the empty one if it is not held
abbrev pub path_at : Rows → ℤ → List ℕ
path_at held id = option_map_or path_of (get held (name_in tables.Deck id)) []
