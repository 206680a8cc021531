-- A keeper's entries, as the finite map of them.
use Rattle.std.specs.Prelude.{◌≡◌, Option, Some, List, cond}
use Rattle.std.specs.BTreeMap.{is_at}
use Rattle.std.specs.Map.{lookup}
use Rattle.std.specs.Option.{option_or}
use Rattle.ak_base.specs.Names.{name_cmp}
use Rattle.ak_base.specs.declared.names.Name.{Name}
use Rattle.ak_base.specs.declared.rows.Row.{Row}

-- the row under a name
abbrev pub row_at : List (Name × Row) → Name → Option Row
row_at es name = lookup (is_at (name_cmp name)) es

-- entries that have this row under this name, and are else the same
abbrev pub IsPut : List (Name × Row) → Name → Row → List (Name × Row) → Type 0
IsPut es name row fs = (q : Name) → row_at fs q ≡ cond (is_at (name_cmp name) q) (Some row) (row_at es q)

-- what the first entries have, and what the second have under any other name
abbrev pub IsFilled : List (Name × Row) → List (Name × Row) → List (Name × Row) → Type 0
IsFilled es fs made = (q : Name) → row_at made q ≡ option_or (row_at es q) (row_at fs q)
