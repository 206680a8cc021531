-- The rows that an edit puts in place of others.
use Rattle.std.specs.Prelude.{List, [], ◌∷◌, Option}
use Rattle.std.specs.Option.{option_map_or}
use Rattle.ak_base.specs.declared.rows.Row.{Row}
use Rattle.ak_edit.specs.Overlays.{Overlay, put_over}

-- the row was put, if there is one
abbrev pub put_some : Option Row → Overlay → Overlay
put_some made o = option_map_or (λ (row : Row). put_over row o) made o

-- what a change makes of each of the rows was put; rows of which it makes nothing stay
abbrev pub put_rows_changed : (Row → Option Row) → List Row → Overlay → Overlay
put_rows_changed change [] o = o
put_rows_changed change (row ∷ rows) o = put_rows_changed change rows (put_some (change row) o)
